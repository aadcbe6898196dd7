use Rattle.std.proofs.Common.{arith, refl, ◌∙◌}
use Rattle.std.proofs.lemmas.Result.{err_from_is_err_and}
use Rattle.process_memory.proofs.Reading.{reading_gives}
use Rattle.thread_exceptions.proofs.Eaching.{eaching_done, eaching_init, eaching_lost, eaching_more}
use Rattle.py_heap.proofs.Same.{none_counted, same_map}
use Rattle.py_heap.proofs.names.read_each.Goals as goal

pub loop-counted-init : goal.loop-counted-init
loop-counted-init g c = eaching_init _ _ _ _ _ _ c.new-named.ensures.items

pub returns-in_err-class : goal.returns-in_err-class
returns-in_err-class g c =
    let p = err_from_is_err_and c.from_residual.result c.from_residual.ensures.1 in
    rw p.1 (reading_gives _ _ (eaching_lost c.loop-counted.invariant c.loop-counted-test.true c.in_err-class.ensures
    (omega arith)) (omega arith) (λ m h. tt))

pub returns-in_err-push : goal.returns-in_err-push
returns-in_err-push g c =
    let p = err_from_is_err_and c.from_residual-in_err-push.result c.from_residual-in_err-push.ensures.1 in
    rw p.1 (reading_gives _ _ (eaching_lost c.loop-counted.invariant c.loop-counted-test.true c.in_ok-class.ensures
    (omega arith)) (omega arith) (λ m h. tt))

pub loop-counted-preserved : goal.loop-counted-preserved
loop-counted-preserved g c = eaching_more _ _ none_counted c.loop-counted.invariant c.loop-counted-test.true refl
    c.in_ok-class.ensures c.in_ok-push.ensures.items

pub returns : goal.returns
returns g c = reading_gives _ _ (eaching_done c.loop-counted.invariant (omega (arith, c.loop-counted-test.false)))
    (omega arith) (λ m h. same_map _ ∙ h)
