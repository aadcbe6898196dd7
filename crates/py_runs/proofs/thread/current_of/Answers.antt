use Rattle.std.proofs.Common.{refl}
use Rattle.process_memory.proofs.Reading.{reading_none}
use Rattle.py_runs.proofs.thread.current_of.Goals as goal

pub returns-in-None : goal.returns-in-None
returns-in-None g c = reading_none 1 _ _ (λ m. rw c.in-None.is refl)
