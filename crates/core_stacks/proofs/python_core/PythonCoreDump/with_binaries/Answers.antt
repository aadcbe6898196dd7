use Rattle.core_stacks.proofs.Left.{found_in_pair}
use Rattle.core_stacks.proofs.python_core.PythonCoreDump.with_binaries.Goals as goal

pub returns-clause-found : goal.returns-clause-found
returns-clause-found c = found_in_pair _ _ _ c.open_core.result c.open_core.ensures.settles.right
