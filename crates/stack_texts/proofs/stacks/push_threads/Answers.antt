use Rattle.std.proofs.Common.{◌+◌, ap, drop, map, string_bytes}
use Rattle.std.proofs.lemmas.List.{drop_all}
use Rattle.native_stacks.specs.Threads.{thread_shown}
use Rattle.native_stacks.proofs.Rest.{next}
use Rattle.stack_texts.proofs.Following.{lines_end, lines_next}
use Rattle.stack_texts.proofs.stacks.push_threads.Goals as goal

pub loop-thread-preserved : goal.loop-thread-preserved
loop-thread-preserved c =
    let threads = c.args.threads.now in
    let i = c.loop-thread.thread-index in
    let x = c.thread-item.result in
    rw c.next_pair.ensures.rest (lines_next c.args.files.now c.args.limit c.args.interpreters.now
    (string_bytes c.loop-thread.text) _ _ (map thread_shown (drop i threads)) (map thread_shown (drop (i + 1) threads))
    (thread_shown x) c.loop-thread.left.now
    (ap (map thread_shown) (next threads i x x c.loop-thread-test.true c.thread-item.is)) c.loop-thread.invariant
    (rw c.next_pair.ensures.pair at c.in_ok-push_thread_of.ensures))

pub returns : goal.returns
returns c = lines_end c.args.files.now c.args.limit c.args.interpreters.now (string_bytes c.loop-thread.text) _
    (map thread_shown (drop c.loop-thread.thread-index c.args.threads.now)) c.loop-thread.left.now
    (ap (map thread_shown) (drop_all c.loop-thread.thread-index c.args.threads.now c.loop-thread-test.false))
    c.loop-thread.invariant
