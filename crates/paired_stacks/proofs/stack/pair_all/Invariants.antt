use Rattle.std.proofs.Common.{◌*◌, drop, map}
use Rattle.process_memory.specs.Seen.{Reading}
use Rattle.native_stacks.specs.Threads.{thread_shown}
use Rattle.paired_stacks.specs.Stacks.{most_of_each}
use Rattle.paired_stacks.proofs.Following.{SoFar}
use Rattle.paired_stacks.proofs.stack.pair_all.Given as goal

abbrev pub invariant-loop-native : goal.invariant-loop-native
invariant-loop-native g l = Reading (most_of_each * l.native-index) (g.P.ProcessMemory.seen l.initial.process)
    (g.P.ProcessMemory.seen l.process) (λ m. SoFar l.end l.layout l.own l.threads m l.starts l.left
    (map thread_shown l.natives) (map thread_shown (drop l.native-index l.natives)) l.stacks.items)
