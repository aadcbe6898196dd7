use Rattle.std.proofs.Common.{arith, refl, sym, ◌∙◌}
use Rattle.std.proofs.lemmas.Result.{err_from_is_err_and}
use Rattle.process_memory.proofs.Reading.{reading_gives}
use Rattle.thread_exceptions.proofs.Eaching.{eaching_done, eaching_init, eaching_lost, eaching_more}
use Rattle.py_exceptions.proofs.Maps.{map_same}
use Rattle.py_exceptions.proofs.traceback.read_entries.Goals as goal

pub loop-address-init : goal.loop-address-init
loop-address-init g c = eaching_init _ _ _ _ _ _ c.new-entries.ensures.items

pub returns-in_err-entry : goal.returns-in_err-entry
returns-in_err-entry g c =
    let p = err_from_is_err_and c.from_residual.result c.from_residual.ensures.1 in
    rw p.1 (reading_gives _ _ (eaching_lost c.loop-address.invariant c.loop-address-test.true c.in_err-entry.ensures
    (omega arith)) (omega arith) (λ m h. tt))

pub returns-in_err-push : goal.returns-in_err-push
returns-in_err-push g c =
    let p = err_from_is_err_and c.from_residual-in_err-push.result c.from_residual-in_err-push.ensures.1 in
    rw p.1 (reading_gives _ _ (eaching_lost c.loop-address.invariant c.loop-address-test.true c.in_ok-entry.ensures
    (omega arith)) (omega arith) (λ m h. tt))

pub loop-address-preserved : goal.loop-address-preserved
loop-address-preserved g c = eaching_more _ _ 0 c.loop-address.invariant c.loop-address-test.true refl
    c.in_ok-entry.ensures c.in_ok-push.ensures.items

pub returns : goal.returns
returns g c = reading_gives _ _ (eaching_done c.loop-address.invariant (omega (arith, c.loop-address-test.false)))
    (omega arith) (λ m h. sym (map_same c.loop-address.entries.items) ∙ h)
