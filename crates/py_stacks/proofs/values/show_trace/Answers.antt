use Rattle.std.proofs.Common.{List, ap, arith}
use Rattle.std.proofs.Math.Nat.{le_refl}
use Rattle.std.proofs.lemmas.Result.{err_from_is_err_and}
use Rattle.process_memory.proofs.Reading.{reading_gives}
use Rattle.py_stacks.specs.Frames.{Call}
use Rattle.py_stacks.specs.Threads.{trace_of}
use Rattle.py_stacks.proofs.Passes.{passing_back, passing_init, passing_more, passing_stop}
use Rattle.py_stacks.proofs.values.show_trace.Goals as goal

pub loop-frame-init : goal.loop-frame-init
loop-frame-init g c = passing_init _ _ _ _ _

pub loop-frame-preserved : goal.loop-frame-preserved
loop-frame-preserved g c = passing_more c.show_frame.new.frame c.frame-item.result (omega arith) c.loop-frame.invariant c.in_ok-show_frame.ensures.shown

pub returns-in_err-show_frame-clause-shown : goal.returns-in_err-show_frame-clause-shown
returns-in_err-show_frame-clause-shown g c =
    let p = err_from_is_err_and c.from_residual.result c.from_residual.ensures.1 in
    rw (p.1, ← c.deref_mut-frame-items.ensures.value) (passing_stop c.frame-item.result _ (omega arith) c.loop-frame.invariant c.in_err-show_frame.ensures.shown (λ m. tt))

pub returns-clause-shown : goal.returns-clause-shown
returns-clause-shown g c = rw (← c.deref_mut-frame-items.ensures.value) (reading_gives _ _
    (passing_back _ c.deref_mut-frame-items.ensures.len (omega (arith, c.loop-frame-test.false)) c.loop-frame.invariant)
    (le_refl _) (λ m e. ap (λ (calls : List Call). record (trace_of c.args.trace.now) { frames = calls }) e))
