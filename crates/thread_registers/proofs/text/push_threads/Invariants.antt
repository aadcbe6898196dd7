use Rattle.std.proofs.Common.{◌≡◌, ◌++◌, drop, map, string_bytes}
use Rattle.thread_registers.specs.Text.{threads_text}
use Rattle.thread_registers.specs.Threads.{thread_shown}
use Rattle.thread_registers.proofs.text.push_threads.Given as goal

abbrev pub invariant-loop-thread : goal.invariant-loop-thread
invariant-loop-thread l = string_bytes l.text ++ threads_text (map thread_shown (drop l.thread-index l.threads))
    ≡ string_bytes l.initial.text ++ threads_text (map thread_shown l.threads)
