use Rattle.native_merge.proofs.Fronts.{behind_is}
use Rattle.native_merge.proofs.cython.behind.Goals as goal

pub returns : goal.returns
returns c = behind_is c.args.front.now c.args.name.now c.strip_prefix.result c.strip_prefix.ensures.cases
