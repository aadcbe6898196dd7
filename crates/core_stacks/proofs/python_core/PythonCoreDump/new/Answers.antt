use Rattle.std.specs.Prelude.{Ok}
use Rattle.core_stacks.proofs.Left.{found_in}
use Rattle.core_stacks.proofs.python_core.PythonCoreDump.new.Goals as goal

pub returns-in-Ok-clause-found : goal.returns-in-Ok-clause-found
returns-in-Ok-clause-found c =
    found_in c.args.core c.args.images.now c.args.layouts.now (Ok c.in-Ok.process) c.in-Ok.ensures.settles.right
