use Rattle.std.proofs.Common.{arith, refl}
use Rattle.std.proofs.lemmas.Result.{err_from_is_err_and}
use Rattle.process_memory.proofs.Reading.{reading_gives}
use Rattle.py_exceptions.specs.Threads.{parts_at}
use Rattle.py_exceptions.proofs.Tells.{reading_and}
use Rattle.py_exceptions.proofs.thread.read_parts.Goals as goal

pub returns-in_err-made_of : goal.returns-in_err-made_of
returns-in_err-made_of g c =
    let p = err_from_is_err_and c.from_residual-in_err-made_of.result c.from_residual-in_err-made_of.ensures.1 in
    rw p.1 (reading_gives 84501 _ (reading_and c.in_ok-name.ensures c.in_err-made_of.ensures) (omega arith)
    (λ m h. tt))

pub returns-in_err-traceback : goal.returns-in_err-traceback
returns-in_err-traceback g c =
    let p = err_from_is_err_and c.from_residual-in_err-traceback.result c.from_residual-in_err-traceback.ensures.1 in
    rw p.1 (reading_gives 84501 _ (reading_and c.in_ok-name.ensures (reading_and c.in_ok-made_of.ensures
    c.in_err-traceback.ensures)) (omega arith) (λ m h. tt))

pub returns : goal.returns
unfolding parts_at
returns g c = reading_gives 84501 _ (reading_and c.in_ok-name.ensures (reading_and c.in_ok-made_of.ensures
    c.in_ok-traceback.ensures)) (omega arith) (λ m h. rw (h.0, h.1.0, h.1.1) refl)
