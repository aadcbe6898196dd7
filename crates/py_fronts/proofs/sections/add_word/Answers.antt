use Rattle.std.proofs.Common.{arith, refl}
use Rattle.std.proofs.lemmas.Result.{err_from_is_err_and}
use Rattle.process_memory.proofs.Reading.{reading_gives, reading_short}
use Rattle.py_fronts.proofs.SectionSteps.{reading_bounded, word_added, word_missing}
use Rattle.py_fronts.proofs.sections.add_word.Goals as goal

pub returns-in_err-push : goal.returns-in_err-push
returns-in_err-push g c =
    let p = err_from_is_err_and c.from_residual.result c.from_residual.ensures.1 in
    rw p.1 (reading_gives _ _ (reading_short c.in-Ok.ensures.answer) (omega arith) (λ m a. p.2))

pub returns : goal.returns
returns g c = reading_gives _ _ (reading_short c.in-Ok.ensures.answer) (omega arith)
    (λ m a. word_added m c.args.at c.in-Ok.word _ _ c.in_ok-push.ensures.items a)

pub returns-in-Err-Unreadable : goal.returns-in-Err-Unreadable
returns-in-Err-Unreadable g c = reading_bounded _ (reading_short c.in-Err-Unreadable.ensures.answer)
    (λ m least a. word_missing m c.args.at _ c.in-Err-Unreadable.field-0 _ _ least c.in-Err-Unreadable.field-0-is a)

pub returns-in-Err-OutOfMemory : goal.returns-in-Err-OutOfMemory
returns-in-Err-OutOfMemory g c = reading_gives _ _ (reading_short c.in-Err-OutOfMemory.ensures.answer) (omega arith)
    (λ m a. refl)
