use Rattle.std.proofs.Common.{arith, refl}
use Rattle.std.proofs.lemmas.Result.{err_from_is_err_and}
use Rattle.process_memory.proofs.Reading.{reading_gives}
use Rattle.py_exceptions.specs.Unicode.{invalid_at}
use Rattle.py_exceptions.proofs.Tells.{reading_and}
use Rattle.py_exceptions.proofs.unicode.read_invalid.Goals as goal

pub returns-in_err-start : goal.returns-in_err-start
returns-in_err-start g c =
    let p = err_from_is_err_and c.from_residual-in_err-start.result c.from_residual-in_err-start.ensures.1 in
    rw p.1 (reading_gives 13 _ (reading_and c.in_ok-object.ensures c.in_err-start.ensures) (omega arith) (λ m h. tt))

pub returns-in_err-end : goal.returns-in_err-end
returns-in_err-end g c =
    let p = err_from_is_err_and c.from_residual-in_err-end.result c.from_residual-in_err-end.ensures.1 in
    rw p.1 (reading_gives 13 _ (reading_and c.in_ok-object.ensures (reading_and c.in_ok-start.ensures
    c.in_err-end.ensures)) (omega arith) (λ m h. tt))

pub returns-in_err-first : goal.returns-in_err-first
returns-in_err-first g c =
    let p = err_from_is_err_and c.from_residual-in_err-first.result c.from_residual-in_err-first.ensures.1 in
    rw p.1 (reading_gives 13 _ (reading_and c.in_ok-object.ensures (reading_and c.in_ok-start.ensures
    (reading_and c.in_ok-end.ensures c.in_err-first.ensures))) (omega arith) (λ m h. tt))

pub returns-in_err-reason : goal.returns-in_err-reason
returns-in_err-reason g c =
    let p = err_from_is_err_and c.from_residual-in_err-reason.result c.from_residual-in_err-reason.ensures.1 in
    rw p.1 (reading_gives 13 _ (reading_and c.in_ok-object.ensures (reading_and c.in_ok-start.ensures
    (reading_and c.in_ok-end.ensures (reading_and c.in_ok-first.ensures c.in_err-reason.ensures)))) (omega arith)
    (λ m h. tt))

pub returns : goal.returns
unfolding invalid_at
returns g c = reading_gives 13 _ (reading_and c.in_ok-object.ensures (reading_and c.in_ok-start.ensures
    (reading_and c.in_ok-end.ensures (reading_and c.in_ok-first.ensures c.in_ok-reason.ensures)))) (omega arith)
    (λ m h. rw (h.1.1.1.0, h.0, h.1.0, h.1.1.0, h.1.1.1.1) refl)
