use Rattle.std.proofs.Common.{refl}
use Rattle.process_memory.proofs.Reading.{reading_none}
use Rattle.py_names.specs.Names.{names_at}
use Rattle.py_names.proofs.names.read_names.Goals as goal

pub returns-in-Absent-clause-answer : goal.returns-in-Absent-clause-answer
unfolding names_at
returns-in-Absent-clause-answer g c = rw c.in-Absent.is (reading_none _ _ _ (λ m. record { is = refl }))
