use Rattle.std.proofs.Common.{arith, refl}
use Rattle.std.proofs.lemmas.Result.{err_from_is_err_and}
use Rattle.process_memory.proofs.Reading.{reading_gives, reading_one}
use Rattle.py_fronts.proofs.CandidateSteps.{section_lost, section_there}
use Rattle.py_fronts.proofs.candidates.add_section.Goals as goal

pub returns-in-Err-Unreadable : goal.returns-in-Err-Unreadable
returns-in-Err-Unreadable g c =
    reading_gives _ _ (reading_one refl c.in-Err-Unreadable.ensures.law) (omega arith)
    (λ m a. section_lost m c.args.addr c.args.size c.in-Err-Unreadable.field-0 _ _ c.args.words.now.items c.in-Err-Unreadable.field-0-is a)

pub returns-in-Err-OutOfMemory : goal.returns-in-Err-OutOfMemory
returns-in-Err-OutOfMemory g c = reading_gives _ _ (reading_one refl c.in-Err-OutOfMemory.ensures.law) (omega arith) (λ m a. refl)

pub returns-in_err-add_words : goal.returns-in_err-add_words
returns-in_err-add_words g c =
    let p = err_from_is_err_and c.from_residual.result c.from_residual.ensures.1 in
    rw p.1 (reading_gives _ _ (reading_one refl c.in-Ok.ensures.law) (omega arith) (λ m a. p.2))

pub returns : goal.returns
returns g c =
    reading_gives _ _ (reading_one refl c.in-Ok.ensures.law) (omega arith)
    (λ m a. section_there m c.args.addr c.args.size c.in-Ok.bytes.items c.deref.result.now c.args.words.now.items c.add_words.new.words.items c.deref.ensures.value a c.in_ok-add_words.ensures)
