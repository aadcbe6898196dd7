use Rattle.std.proofs.Common.{◌≡◌, map, take}
use Rattle.std.specs.List.{sum_by}
use Rattle.memory_builder.specs.Mirror.{program_thread}
use Rattle.memory_builder.specs.Sizes.{capped, thread_size}
use Rattle.memory_builder.proofs.sizes.threads_size.Given as goal

-- the threads so far
abbrev pub invariant-loop-thread : goal.invariant-loop-thread
invariant-loop-thread l = l.total ≡ capped (sum_by (thread_size l.layout)
    (take l.thread-index (map program_thread l.thread-items)))
