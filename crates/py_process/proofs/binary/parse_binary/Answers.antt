use Rattle.py_process.proofs.Images.{complete_right, only_right, say_same}
use Rattle.py_process.proofs.binary.parse_binary.Goals as goal

pub returns-clause-only : goal.returns-clause-only
returns-clause-only c = only_right c.args.bytes.now c.args.addr c.args.size c.read_binary.result c.read_binary.ensures

pub returns-clause-complete : goal.returns-clause-complete
returns-clause-complete c = complete_right c.args.bytes.now c.args.addr c.args.size c.read_binary.result c.read_binary.ensures

pub returns-clause-once : goal.returns-clause-once
returns-clause-once c = say_same c.args.bytes.now c.args.addr c.args.size
