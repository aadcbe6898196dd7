use Rattle.std.proofs.Common.{◌∙◌, ◌++◌, ap, append-nil, map, sym, string_bytes}
use Rattle.std.proofs.lemmas.List.{at_drop_all}
use Rattle.thread_registers.specs.Text.{thread_text, threads_text}
use Rattle.thread_registers.specs.Threads.{thread_shown}
use Rattle.thread_registers.proofs.Rest.{next, part_more}
use Rattle.thread_registers.proofs.text.push_threads.Goals as goal

pub loop-thread-preserved : goal.loop-thread-preserved
loop-thread-preserved c =
    let x = c.thread-item.result in
    part_more (λ xs. threads_text (map thread_shown xs)) (thread_text (thread_shown x))
    (string_bytes c.loop-thread.text) _ _ c.args.threads.now c.loop-thread.thread-index
    (ap (λ xs. threads_text (map thread_shown xs))
    (next c.args.threads.now c.loop-thread.thread-index x x c.loop-thread-test.true c.thread-item.is))
    c.loop-thread.invariant c.in_ok-push_thread.ensures

pub returns : goal.returns
returns c =
    sym (append-nil (string_bytes c.loop-thread.text))
    ∙ ap (λ t. string_bytes c.loop-thread.text ++ t) (sym (at_drop_all (λ xs. threads_text (map thread_shown xs))
    c.args.threads.now c.loop-thread.thread-index c.loop-thread-test.false)) ∙ c.loop-thread.invariant
