use Rattle.std.proofs.Common.{ap}
use Rattle.std.specs.Prelude.{Some}
use Rattle.task_edges.proofs.waits.waits_for.Goals as goal

pub returns-in-None : goal.returns-in-None
returns-in-None c = rw c.in-None.is (ap (λ xs. Some xs) c.new.ensures.items)

pub returns-in-Some : goal.returns-in-Some
returns-in-Some c = rw c.in-Some.is c.waits_at.ensures
