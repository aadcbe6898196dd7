use Rattle.std.proofs.Common.{refl}
use Rattle.process_memory.proofs.Reading.{reading_none}
use Rattle.py_exceptions.proofs.rule.read_by_kind.Goals as goal

pub returns-in-Plain : goal.returns-in-Plain
returns-in-Plain g c = rw c.in-Plain.is (reading_none 24 _ _ (λ m. refl))

pub returns-in-Key : goal.returns-in-Key
returns-in-Key g c = rw c.in-Key.is (reading_none 24 _ _ (λ m. refl))

pub returns-in-Own : goal.returns-in-Own
returns-in-Own g c = rw c.in-Own.is (reading_none 24 _ _ (λ m. refl))
