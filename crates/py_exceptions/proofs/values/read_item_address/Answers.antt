use Rattle.std.proofs.Common.{arith, refl}
use Rattle.process_memory.proofs.Reading.{reading_gives}
use Rattle.py_builtins.proofs.Consulted.{fields_short}
use Rattle.py_exceptions.proofs.Tells.{lost_known}
use Rattle.py_exceptions.proofs.values.read_item_address.Goals as goal

pub returns-in-Ok : goal.returns-in-Ok
returns-in-Ok g c = reading_gives 1 _ (fields_short c.in-Ok.ensures.answer) (omega arith) (λ m a. rw a.is refl)

pub returns-in-Err-Unreadable : goal.returns-in-Err-Unreadable
returns-in-Err-Unreadable g c =
    reading_gives 1 _ (fields_short c.in-Err-Unreadable.ensures.answer) (omega arith)
    (λ m a. lost_known _ _ _ _ a c.in-Err-Unreadable.field-0-is)

pub returns-in-Err-OutOfMemory : goal.returns-in-Err-OutOfMemory
returns-in-Err-OutOfMemory g c =
    reading_gives 1 _ (fields_short c.in-Err-OutOfMemory.ensures.answer) (omega arith) (λ m a. tt)
