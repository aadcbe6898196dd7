use Rattle.std.proofs.Common.{arith, refl}
use Rattle.process_memory.proofs.Reading.{reading_gives}
use Rattle.py_builtins.proofs.Consulted.{fields_short}
use Rattle.py_reprs.proofs.Picking.{entry_lost}
use Rattle.py_reprs.specs.Slots.{entry_at}
use Rattle.py_reprs.proofs.slots.read_entry.Goals as goal

pub returns-in-Ok-Empty : goal.returns-in-Ok-Empty
unfolding entry_at
returns-in-Ok-Empty g c =
    let slot = rw c.in-Ok-Empty.field-0-is at c.in-Ok-Empty.ensures.answer in
    reading_gives 2 _ (fields_short slot) (omega arith) (λ m h. rw h.is refl)

pub returns-in-Ok-Entry : goal.returns-in-Ok-Entry
unfolding entry_at
returns-in-Ok-Entry g c =
    let slot = rw c.in-Ok-Entry.field-0-is at c.in-Ok-Entry.ensures.answer in
    reading_gives 2 _ (fields_short slot) (omega arith) (λ m h. rw h.is c.entry_of.ensures)

pub returns-in-Err : goal.returns-in-Err
unfolding entry_at
returns-in-Err g c =
    reading_gives 2 _ (fields_short c.in-Err.ensures.answer) (omega arith)
    (λ m h. entry_lost _ _ _ h c.lost_entry.ensures)
