use Rattle.std.proofs.Common.{◌≡◌, arith, refl}
use Rattle.std.proofs.lemmas.Result.{err_from_is_err_and}
use Rattle.process_memory.proofs.Reading.{reading_gives}
use Rattle.thread_exceptions.specs.Thread.{Handled, Value}
use Rattle.thread_exceptions.specs.declared.thread.Owner.{Owner}
use Rattle.thread_exceptions.proofs.Eaching.{eaching_done, eaching_init, eaching_lost, eaching_more}
use Rattle.thread_exceptions.proofs.thread.read_handled.Goals as goal

abbrev handled_with : Owner → Value → Handled
handled_with o v = record { owner = o; value = v }

handled_is : {o p : Owner} {v w : Value} → o ≡ p → v ≡ w → handled_with o v ≡ handled_with p w
handled_is a b = rw (a, b) refl

pub loop-item-init : goal.loop-item-init
loop-item-init g c = eaching_init _ _ _ _ _ _ c.new-handled.ensures.items

pub returns-in_err-value : goal.returns-in_err-value
returns-in_err-value g c =
    let p = err_from_is_err_and c.from_residual.result c.from_residual.ensures.1 in
    rw p.1 (reading_gives _ _ (eaching_lost c.loop-item.invariant c.loop-item-test.true c.in_err-value.ensures
    (omega arith)) (omega arith) (λ m h. tt))

pub returns-in_err-push : goal.returns-in_err-push
returns-in_err-push g c =
    let p = err_from_is_err_and c.from_residual-in_err-push.result c.from_residual-in_err-push.ensures.1 in
    rw p.1 (reading_gives _ _ (eaching_lost c.loop-item.invariant c.loop-item-test.true c.in_ok-value.ensures
    (omega arith)) (omega arith) (λ m h. tt))

pub loop-item-preserved : goal.loop-item-preserved
loop-item-preserved g c = eaching_more _ _ 0 c.loop-item.invariant c.loop-item-test.true refl
    (reading_gives _ _ c.in_ok-value.ensures (omega arith)
    (λ m h. handled_is c.owner_of-owner.ensures h)) c.in_ok-push.ensures.items

pub returns : goal.returns
returns g c = eaching_done c.loop-item.invariant (omega (arith, c.loop-item-test.false))
