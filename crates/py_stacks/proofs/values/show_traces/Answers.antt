use Rattle.std.proofs.Common.{arith}
use Rattle.std.proofs.lemmas.Result.{err_from_is_err_and}
use Rattle.py_stacks.specs.Values.{traces_visits}
use Rattle.py_stacks.proofs.Passes.{passing_back, passing_init, passing_more, passing_stop}
use Rattle.py_stacks.proofs.values.show_traces.Goals as goal

pub loop-trace-init : goal.loop-trace-init
loop-trace-init g c = passing_init _ _ _ _ _

pub loop-trace-preserved : goal.loop-trace-preserved
loop-trace-preserved g c = passing_more c.show_trace.new.trace c.trace-item.result (omega arith) c.loop-trace.invariant c.in_ok-show_trace.ensures.shown

pub returns-in_err-show_trace-clause-shown : goal.returns-in_err-show_trace-clause-shown
unfolding traces_visits
returns-in_err-show_trace-clause-shown g c =
    let p = err_from_is_err_and c.from_residual.result c.from_residual.ensures.1 in
    rw (p.1, ← c.deref_mut-trace-items.ensures.value) (passing_stop c.trace-item.result _ (omega arith) c.loop-trace.invariant c.in_err-show_trace.ensures.shown (λ m. tt))

pub returns-clause-shown : goal.returns-clause-shown
unfolding traces_visits
returns-clause-shown g c = rw (← c.deref_mut-trace-items.ensures.value) (passing_back _ c.deref_mut-trace-items.ensures.len (omega (arith, c.loop-trace-test.false)) c.loop-trace.invariant)
