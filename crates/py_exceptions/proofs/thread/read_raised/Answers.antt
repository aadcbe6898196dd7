use Rattle.std.proofs.Common.{refl}
use Rattle.process_memory.proofs.Reading.{reading_none}
use Rattle.py_exceptions.proofs.thread.read_raised.Goals as goal

pub returns-in-Nothing : goal.returns-in-Nothing
returns-in-Nothing g c = reading_none 84501 _ _ (λ m. rw c.in-Nothing.is refl)

pub returns-in-Exception : goal.returns-in-Exception
returns-in-Exception g c = reading_none 84501 _ _ (λ m. rw c.in-Exception.is refl)

pub returns-in-Unreadable : goal.returns-in-Unreadable
returns-in-Unreadable g c = reading_none 84501 _ _ (λ m. rw c.in-Unreadable.is refl)
