use Rattle.native_stacks.specs.Stacks.{stacks_shown}
use Rattle.native_stacks.proofs.Plain.{no_float}
use Rattle.native_stacks.proofs.tree.native_value.Goals as goal

pub returns-clause-no_float : goal.returns-clause-no_float
returns-clause-no_float c = no_float c.args.limit (stacks_shown c.args.stacks.now)
