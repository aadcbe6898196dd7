use Rattle.std.proofs.Common.{◌≡◌, map}
use Rattle.image_builder.specs.Generated.{each, thread_of}
use Rattle.memory_builder.specs.Mirror.{program_thread}
use Rattle.image_builder.proofs.seeded.generate.Given as goal

-- the threads so far
abbrev pub invariant-loop-thread : goal.invariant-loop-thread
invariant-loop-thread l = map program_thread l.threads.items ≡ each (thread_of l.seed) l.thread
