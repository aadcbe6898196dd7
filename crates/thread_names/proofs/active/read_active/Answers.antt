use Rattle.std.proofs.Common.{refl}
use Rattle.process_memory.proofs.Reading.{reading_none}
use Rattle.thread_names.specs.Active.{active_at}
use Rattle.thread_names.proofs.active.read_active.Goals as goal

pub returns-in-Absent-clause-answer : goal.returns-in-Absent-clause-answer
unfolding active_at
returns-in-Absent-clause-answer g c = rw c.in-Absent.is (reading_none _ _ _ (λ m. record { is = refl }))
