use Rattle.std.proofs.Common.{arith}
use Rattle.process_memory.proofs.Reading.{reading_gives, reading_then}
use Rattle.py_fronts.proofs.HiddenTexts.{hides_no_lost, hides_no_other}
use Rattle.py_fronts.proofs.RecordWords.{reading_inside}
use Rattle.process_memory.proofs.Reading.{reading_short}
use Rattle.py_fronts.proofs.members.hides.Goals as goal

pub returns-in-Err-Unreadable : goal.returns-in-Err-Unreadable
returns-in-Err-Unreadable g c =
    let lost = reading_short (rw c.in-Err-Unreadable.field-0-is at c.in-Err-Unreadable.ensures.answer) in
    reading_inside 3 _ lost (omega arith)
    (λ m within a. hides_no_lost _ c.args.addr c.requires.sound within _ a.is)

pub returns-then-length-ne-SHIM_UNITS : goal.returns-then-length-ne-SHIM_UNITS
returns-then-length-ne-SHIM_UNITS g c =
    reading_inside 3 _ (reading_short c.in-Ok.ensures.answer) (omega arith)
    (λ m within a. hides_no_other _ c.args.addr c.requires.sound within c.in-Ok.length a.is
    c.if-length-ne0.true c.if-length-ne-SHIM_UNITS.true)

pub returns : goal.returns
returns g c =
    reading_gives 3 _ (reading_then _ (reading_short c.in-Ok.ensures.answer) c.hides_text.ensures (λ m a b. b)) (omega arith) (λ m h. h)
