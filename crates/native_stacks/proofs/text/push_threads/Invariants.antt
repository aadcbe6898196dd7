use Rattle.std.proofs.Common.{◌≡◌, ◌++◌, drop, map, string_bytes}
use Rattle.native_stacks.specs.Text.{stacks_text}
use Rattle.native_stacks.specs.Threads.{thread_shown}
use Rattle.native_stacks.proofs.text.push_threads.Given as goal

abbrev pub invariant-loop-thread : goal.invariant-loop-thread
invariant-loop-thread l =
    string_bytes l.text
    ++ stacks_text l.limit (record { files = l.files; threads = map thread_shown (drop l.thread-index l.threads) })
    ≡ string_bytes l.initial.text
    ++ stacks_text l.limit (record { files = l.files; threads = map thread_shown l.threads })
