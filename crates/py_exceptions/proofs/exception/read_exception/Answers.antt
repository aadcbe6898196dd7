use Rattle.std.proofs.Common.{arith, refl}
use Rattle.std.proofs.lemmas.Result.{err_from_is_err_and}
use Rattle.process_memory.proofs.Reading.{reading_gives}
use Rattle.py_exceptions.specs.Exceptions.{exception_at}
use Rattle.py_exceptions.proofs.Tells.{reading_and}
use Rattle.py_exceptions.proofs.exception.read_exception.Goals as goal

pub returns-in_err-said : goal.returns-in_err-said
returns-in_err-said g c =
    let p = err_from_is_err_and c.from_residual-in_err-said.result c.from_residual-in_err-said.ensures.1 in
    rw p.1 (reading_gives 117623 _ (reading_and c.in_ok-class.ensures c.in_err-said.ensures) (omega arith)
    (λ m h. tt))

pub returns-in_err-traceback : goal.returns-in_err-traceback
returns-in_err-traceback g c =
    let p = err_from_is_err_and c.from_residual-in_err-traceback.result c.from_residual-in_err-traceback.ensures.1 in
    rw p.1 (reading_gives 117623 _ (reading_and c.in_ok-class.ensures (reading_and c.in_ok-said.ensures
    c.in_err-traceback.ensures)) (omega arith) (λ m h. tt))

pub returns-in_err-notes : goal.returns-in_err-notes
returns-in_err-notes g c =
    let p = err_from_is_err_and c.from_residual-in_err-notes.result c.from_residual-in_err-notes.ensures.1 in
    rw p.1 (reading_gives 117623 _ (reading_and c.in_ok-class.ensures (reading_and c.in_ok-said.ensures
    (reading_and c.in_ok-traceback.ensures c.in_err-notes.ensures))) (omega arith) (λ m h. tt))

pub returns : goal.returns
unfolding exception_at
returns g c = reading_gives 117623 _ (reading_and c.in_ok-class.ensures (reading_and c.in_ok-said.ensures
    (reading_and c.in_ok-traceback.ensures c.in_ok-notes.ensures))) (omega arith)
    (λ m h. rw (h.0, h.1.0, h.1.1.0, h.1.1.1) refl)
