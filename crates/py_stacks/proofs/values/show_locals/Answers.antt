use Rattle.std.proofs.Common.{arith}
use Rattle.std.proofs.lemmas.Result.{err_from_is_err_and}
use Rattle.py_stacks.proofs.Passes.{elements_back, elements_stop, passing_init, passing_more}
use Rattle.py_stacks.proofs.values.show_locals.Goals as goal

pub loop-local-init : goal.loop-local-init
loop-local-init g c = passing_init _ _ _ _ _

pub loop-local-preserved : goal.loop-local-preserved
loop-local-preserved g c = passing_more c.show_local.new.local c.local-item.result (omega arith) c.loop-local.invariant c.in_ok-show_local.ensures.shown

pub returns-in_err-show_local-clause-shown : goal.returns-in_err-show_local-clause-shown
returns-in_err-show_local-clause-shown g c =
    let p = err_from_is_err_and c.from_residual.result c.from_residual.ensures.1 in
    rw (p.1, ← c.deref_mut-local-items.ensures.value) (elements_stop c.local-item.result _ (omega arith) c.loop-local.invariant c.in_err-show_local.ensures.shown (λ m. tt))

pub returns-clause-shown : goal.returns-clause-shown
returns-clause-shown g c = rw (← c.deref_mut-local-items.ensures.value) (elements_back _ c.deref_mut-local-items.ensures.len (omega (arith, c.loop-local-test.false)) c.loop-local.invariant)
