use Rattle.std.proofs.Common.{◌≡◌, ◌+◌, ◌<◌, ◌^◌, ◌++◌, length, map}
use Rattle.std.specs.List.{AllByRecursion, sum_by}
use Rattle.py_stacks.specs.Lines.{family_of}
use Rattle.memory_builder.specs.Chains.{laid_chain}
use Rattle.memory_builder.specs.Program.{Thread}
use Rattle.memory_builder.specs.Threads.{laid_thread}
use Rattle.memory_builder.specs.Mirror.{program_thread}
use Rattle.memory_builder.specs.Sizes.{thread_size}
use Rattle.memory_builder.specs.Validity.{IsValidFrame}
use Rattle.memory_builder.proofs.threads.add_threads.Given as goal

-- what is added, and the threads that are left, are the whole
abbrev pub invariant-loop-thread : goal.invariant-loop-thread
invariant-loop-thread l = record {
  valid : AllByRecursion (λ (t : Thread). AllByRecursion (IsValidFrame (family_of l.layout.lines)) t.frames)
      (map program_thread l.rest);
  whole : l.out.items ++ laid_chain (thread_size l.layout) (laid_thread l.layout l.types l.interp) l.here
      (map program_thread l.rest)
      ≡ l.fn.out.items ++ laid_chain (thread_size l.layout) (laid_thread l.layout l.types l.interp) l.at
      (map program_thread l.threads);
  fits : l.here + sum_by (thread_size l.layout) (map program_thread l.rest) < 2 ^ 63;
}

abbrev pub decreases-loop-thread : goal.decreases-loop-thread
decreases-loop-thread l = length l.rest
