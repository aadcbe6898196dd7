use Rattle.std.proofs.Common.{◌≡◌, ◌++◌, drop, map, string_bytes}
use Rattle.native_stacks.specs.Threads.{thread_shown}
use Rattle.stack_texts.specs.Stacks.{threads_text}
use Rattle.stack_texts.proofs.stacks.push_threads.Given as goal

abbrev pub invariant-loop-thread : goal.invariant-loop-thread
invariant-loop-thread l = string_bytes l.text ++ threads_text l.files l.limit l.interpreters
    (map thread_shown (drop l.thread-index l.threads)) l.left
    ≡ string_bytes l.initial.text ++ threads_text l.files l.limit l.interpreters (map thread_shown l.threads) l.pairs
