use Rattle.std.proofs.Math.Nat.{le_refl}
use Rattle.process_memory.proofs.Reading.{reading_gives, reading_short}
use Rattle.py_reprs.proofs.Pieces.{piece_missing, piece_there}
use Rattle.py_reprs.proofs.fronts.read_piece.Goals as goal

pub returns-in-Ok : goal.returns-in-Ok
returns-in-Ok g c = reading_gives 1 _ (reading_short c.in-Ok.ensures.answer) (le_refl 1)
    (λ m a. piece_there m c.args.at c.args.length _ c.requires.within a)

pub returns-in-Err-Unreadable : goal.returns-in-Err-Unreadable
returns-in-Err-Unreadable g c =
    let answer = rw c.in-Err-Unreadable.field-0-is at c.in-Err-Unreadable.ensures.answer in
    reading_gives 1 _ (reading_short answer) (le_refl 1) (λ m a. piece_missing m c.args.at c.args.length _ _
    c.requires.within a)
