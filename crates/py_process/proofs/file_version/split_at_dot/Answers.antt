use Rattle.std.proofs.Common.{arith}
use Rattle.py_process.proofs.Parts.{one_part, two_parts}
use Rattle.py_process.proofs.file_version.split_at_dot.Goals as goal

pub returns-then-place-text : goal.returns-then-place-text
returns-then-place-text c = one_part c.args.text.now c.dot_place-place.result c.if-place-text.true c.dot_place-place.ensures.before

pub returns : goal.returns
returns c = two_parts c.args.text.now c.dot_place-place.result (omega arith) c.dot_place-place.ensures.before (c.dot_place-place.ensures.dot (omega arith))
