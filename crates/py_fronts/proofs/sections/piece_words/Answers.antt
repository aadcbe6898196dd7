use Rattle.std.proofs.Common.{arith, refl}
use Rattle.std.proofs.lemmas.Result.{err_from_is_err_and}
use Rattle.process_memory.proofs.Reading.{reading_gives, reading_short, reading_then}
use Rattle.py_fronts.proofs.SectionSteps.{piece_parts, piece_whole}
use Rattle.py_fronts.proofs.Steps.{lost_then}
use Rattle.py_fronts.proofs.sections.piece_words.Goals as goal

pub returns-in_err-add_there-in-Err-Unreadable : goal.returns-in_err-add_there-in-Err-Unreadable
returns-in_err-add_there-in-Err-Unreadable g c =
    let p = err_from_is_err_and c.from_residual.result c.from_residual.ensures.1 in
    rw p.1 (lost_then _ (reading_short c.in-Err-Unreadable.ensures.answer)
    c.in_err-add_there-in-Err-Unreadable.ensures p.2 (omega arith))

pub returns-in-Err-Unreadable : goal.returns-in-Err-Unreadable
returns-in-Err-Unreadable g c =
    reading_gives _ _
    (reading_then _ (reading_short c.in-Err-Unreadable.ensures.answer) c.in_ok-add_there-in-Err-Unreadable.ensures
    (λ m a b. piece_parts m c.args.at c.args.count c.new-words.result.items _ c.new-words.ensures.items b))
    (omega arith) (λ m h. h)

pub returns-in-Err-OutOfMemory : goal.returns-in-Err-OutOfMemory
returns-in-Err-OutOfMemory g c = reading_gives _ _ (reading_short c.in-Err-OutOfMemory.ensures.answer) (omega arith)
    (λ m a. refl)

pub returns-in_err-add_words : goal.returns-in_err-add_words
returns-in_err-add_words g c =
    let p = err_from_is_err_and c.from_residual-in_err-add_words.result c.from_residual-in_err-add_words.ensures.1 in
    rw p.1 (reading_gives _ _ (reading_short c.in-Ok.ensures.answer) (omega arith) (λ m a. p.2))

pub returns : goal.returns
returns g c = reading_gives _ _ (reading_short c.in-Ok.ensures.answer) (omega arith)
    (λ m a. piece_whole m c.args.at c.args.count _ c.deref.result.now c.new-words.result.items _ c.new-words.ensures.items
    a c.deref.ensures.value c.in_ok-add_words.ensures)
