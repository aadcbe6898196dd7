use Rattle.std.proofs.Common.{refl}
use Rattle.process_memory.proofs.Reading.{reading_none}
use Rattle.py_runs.proofs.closing.closes_at.Goals as goal

pub returns-in-Each : goal.returns-in-Each
returns-in-Each g c = reading_none 1 _ _ (λ m. rw c.in-Each.is refl)
