use Rattle.std.proofs.Common.{◌+◌, ◌∙◌, sym, ap, arith}
use Rattle.std.specs.Prelude.{Some}
use Rattle.std.specs.Result.{result_ok}
use Rattle.process_memory.proofs.Reading.{reading_gives, reading_short}
use Rattle.py_runs.specs.Members.{byte_known, first_of}
use Rattle.py_runs.proofs.found.byte_past.Goals as goal

pub returns-in-Ok : goal.returns-in-Ok
returns-in-Ok g c = reading_gives 1 _ (reading_short c.in-Ok.ensures.answer) (omega arith)
    (λ m a. c.first_of.ensures ∙ ap (λ bs. first_of (Some bs)) c.deref.ensures.value
    ∙ sym (ap (λ r. first_of (result_ok r)) a.is)
    ∙ ap (λ n. byte_known m (n + c.from-2.result)) c.from.ensures
    ∙ ap (λ n. byte_known m (c.args.base + n)) c.from-2.ensures)

pub returns-in-Err-Unreadable : goal.returns-in-Err-Unreadable
returns-in-Err-Unreadable g c =
    let lost = reading_short (rw c.in-Err-Unreadable.field-0-is at c.in-Err-Unreadable.ensures.answer) in
    reading_gives 1 _ lost (omega arith) (λ m a. sym (ap (λ r. first_of (result_ok r)) a.is)
    ∙ ap (λ n. byte_known m (n + c.from-2.result)) c.from.ensures
    ∙ ap (λ n. byte_known m (c.args.base + n)) c.from-2.ensures)
