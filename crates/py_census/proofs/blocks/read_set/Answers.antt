use Rattle.std.proofs.Common.{refl}
use Rattle.process_memory.proofs.Reading.{reading_none}
use Rattle.py_census.proofs.blocks.read_set.Goals as goal

pub returns-in-None : goal.returns-in-None
returns-in-None g c = reading_none _ _ _ (λ m. rw c.in-None.is refl)

pub returns-in-Some-false : goal.returns-in-Some-false
returns-in-Some-false g c = reading_none _ _ _ (λ m. rw (c.in-Some-false.is, c.in-Some-false.field-0-test) refl)
