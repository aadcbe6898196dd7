use Rattle.std.proofs.Common.{None, get_or, refl, string_bytes}
use Rattle.py_waits.specs.Text.{thread_text}
use Rattle.py_waits.specs.declared.told.ThreadWait.{ThreadWait}
use Rattle.py_waits.proofs.Parts.{push_more}
use Rattle.py_waits.proofs.text.push_threads.Goals as goal

pub loop-thread-preserved : goal.loop-thread-preserved
loop-thread-preserved c =
    let none : ThreadWait = record { thread_id = 0; wait = None } in
    push_more (λ t. thread_text t) (string_bytes c.args.text.now) _ _ c.args.threads.now
    c.loop-thread.thread-index (get_or c.args.threads.now c.loop-thread.thread-index none) none
    c.loop-thread-test.true refl c.loop-thread.invariant c.in_ok-push_thread.ensures
