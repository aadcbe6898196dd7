use Rattle.std.proofs.Common.{refl}
use Rattle.process_memory.proofs.Reading.{reading_none}
use Rattle.py_census.proofs.bases.read_set_class.Goals as goal

pub returns-in-None : goal.returns-in-None
returns-in-None g c = reading_none _ _ _ (λ m. rw c.in-None.is refl)
