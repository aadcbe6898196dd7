use Rattle.std.proofs.Common.{refl}
use Rattle.process_memory.proofs.Reading.{reading_none}
use Rattle.py_exceptions.proofs.exception.read_met.Goals as goal

pub returns-in-Other : goal.returns-in-Other
returns-in-Other g c = reading_none 117623 _ _ (λ m. rw c.in-Other.is refl)

pub returns-in-Unreadable : goal.returns-in-Unreadable
returns-in-Unreadable g c = reading_none 117623 _ _ (λ m. rw c.in-Unreadable.is refl)
