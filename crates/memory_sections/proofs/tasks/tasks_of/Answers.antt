use Rattle.std.proofs.Common.{refl}
use Rattle.memory_sections.proofs.tasks.tasks_of.Goals as goal

pub returns : goal.returns
returns c = record { interpreter_is = refl; are = c.in_ok-tasks.ensures; others = c.in_ok-frameworks.ensures }
