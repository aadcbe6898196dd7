use Rattle.py_process.proofs.Parts.{last_is}
use Rattle.py_process.proofs.file_version.last_part.Goals as goal

pub returns : goal.returns
returns c = last_is c.args.path.now c.last_start.result c.last_start.ensures.within c.last_start.ensures.after c.last_start.ensures.slash
