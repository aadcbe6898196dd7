use Rattle.std.proofs.Common.{◌∙◌, ◌++◌, ap, append-nil, map, sym, string_bytes}
use Rattle.std.proofs.lemmas.List.{at_drop_all}
use Rattle.native_stacks.specs.Text.{stacks_text, thread_text}
use Rattle.native_stacks.specs.Threads.{thread_shown}
use Rattle.native_stacks.proofs.Rest.{next, part_more}
use Rattle.native_stacks.proofs.text.push_threads.Goals as goal

pub loop-thread-preserved : goal.loop-thread-preserved
loop-thread-preserved c =
    let x = c.thread-item.result in
    let files = c.args.files.now in
    part_more (λ xs. stacks_text c.args.limit (record { files = files; threads = map thread_shown xs }))
    (thread_text files c.args.limit (thread_shown x)) (string_bytes c.loop-thread.text) _ _ c.args.threads.now
    c.loop-thread.thread-index
    (ap (λ xs. stacks_text c.args.limit (record { files = files; threads = map thread_shown xs }))
    (next c.args.threads.now c.loop-thread.thread-index x x c.loop-thread-test.true c.thread-item.is))
    c.loop-thread.invariant c.in_ok-push_thread.ensures

pub returns : goal.returns
returns c =
    sym (append-nil (string_bytes c.loop-thread.text))
    ∙ ap (λ t. string_bytes c.loop-thread.text ++ t) (sym (at_drop_all
    (λ xs. stacks_text c.args.limit (record { files = c.args.files.now; threads = map thread_shown xs }))
    c.args.threads.now c.loop-thread.thread-index c.loop-thread-test.false)) ∙ c.loop-thread.invariant
