use Rattle.std.proofs.Common.{◌≡◌, ◌+◌, map, take}
use Rattle.std.specs.List.{sum_by}
use Rattle.memory_builder.specs.Mirror.{program_thread}
use Rattle.memory_builder.specs.Sizes.{thread_size}
use Rattle.memory_builder.proofs.program.owner_place.Given as goal

-- where the thread stands that is next
abbrev pub invariant-loop-thread : goal.invariant-loop-thread
invariant-loop-thread l = l.here ≡ l.first + sum_by (thread_size l.layout)
    (take l.thread-index (map program_thread l.thread-items))
