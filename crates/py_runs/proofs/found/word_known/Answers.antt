use Rattle.std.proofs.Common.{◌+◌, ◌∙◌, sym, ap, arith}
use Rattle.std.specs.Result.{result_ok}
use Rattle.process_memory.proofs.Reading.{reading_gives, reading_short}
use Rattle.py_runs.specs.Members.{word_known}
use Rattle.py_runs.proofs.found.word_known.Goals as goal

pub returns-in-Ok : goal.returns-in-Ok
returns-in-Ok g c = reading_gives 1 _ (reading_short c.in-Ok.ensures.answer) (omega arith)
    (λ m a. sym (ap (λ r. result_ok r) a.is) ∙ ap (λ n. word_known m (c.args.base + n)) c.from.ensures)

pub returns-in-Err-Unreadable : goal.returns-in-Err-Unreadable
returns-in-Err-Unreadable g c =
    let lost = reading_short (rw c.in-Err-Unreadable.field-0-is at c.in-Err-Unreadable.ensures.answer) in
    reading_gives 1 _ lost (omega arith) (λ m a. sym (ap (λ r. result_ok r) a.is)
    ∙ ap (λ n. word_known m (c.args.base + n)) c.from.ensures)
