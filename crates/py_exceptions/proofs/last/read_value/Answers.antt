use Rattle.std.proofs.Common.{refl}
use Rattle.process_memory.proofs.Reading.{reading_none}
use Rattle.py_exceptions.specs.Last.{value_at}
use Rattle.py_exceptions.proofs.last.read_value.Goals as goal

pub returns-in-Absent : goal.returns-in-Absent
unfolding value_at
returns-in-Absent g c = rw c.in-Absent.is (reading_none _ _ _ (λ m. record { is = refl }))
