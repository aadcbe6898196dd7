use Rattle.std.proofs.Common.{string_bytes}
use Rattle.exception_texts.specs.Text.{thread_text}
use Rattle.salvage_texts.proofs.Parts.{push_more}
use Rattle.exception_texts.proofs.text.push_threads.Goals as goal

pub loop-thread-preserved : goal.loop-thread-preserved
loop-thread-preserved c =
    push_more (λ x. thread_text x) (string_bytes c.args.text.now) _ _ c.args.threads.now c.loop-thread.thread-index
    c.thread-item.result c.thread-item.result c.loop-thread-test.true c.thread-item.is c.loop-thread.invariant
    c.in_ok-push_thread.ensures
