use Rattle.std.proofs.Common.{arith}
use Rattle.std.proofs.lemmas.Result.{err_from_is_err_and}
use Rattle.process_memory.proofs.Reading.{reading_gives}
use Rattle.thread_exceptions.proofs.Eaching.{eaching_done, eaching_init, eaching_lost, eaching_more}
use Rattle.py_exceptions.proofs.exception.read_all.Goals as goal

pub loop-one-init : goal.loop-one-init
loop-one-init g c = eaching_init _ _ _ _ _ _ c.new-all.ensures.items

pub returns-in_err-told : goal.returns-in_err-told
returns-in_err-told g c =
    let p = err_from_is_err_and c.from_residual.result c.from_residual.ensures.1 in
    rw p.1 (reading_gives _ _ (eaching_lost c.loop-one.invariant c.loop-one-test.true c.in_err-told.ensures
    (omega arith)) (omega arith) (λ m h. tt))

pub returns-in_err-push : goal.returns-in_err-push
returns-in_err-push g c =
    let p = err_from_is_err_and c.from_residual-in_err-push.result c.from_residual-in_err-push.ensures.1 in
    rw p.1 (reading_gives _ _ (eaching_lost c.loop-one.invariant c.loop-one-test.true c.in_ok-told.ensures
    (omega arith)) (omega arith) (λ m h. tt))

pub loop-one-preserved : goal.loop-one-preserved
loop-one-preserved g c = eaching_more _ _ c.one-item.result c.loop-one.invariant c.loop-one-test.true c.one-item.is
    c.in_ok-told.ensures c.in_ok-push.ensures.items

pub returns : goal.returns
returns g c = reading_gives _ _ (eaching_done c.loop-one.invariant (omega (arith, c.loop-one-test.false)))
    (omega arith) (λ m h. h)
