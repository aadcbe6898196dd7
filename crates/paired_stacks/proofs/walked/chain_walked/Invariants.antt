use Rattle.std.proofs.Common.{◌≡◌, map, take}
use Rattle.paired_stacks.specs.Walked.{walked_of}
use Rattle.paired_stacks.proofs.walked.chain_walked.Given as goal

abbrev pub invariant-loop-thread : goal.invariant-loop-thread
invariant-loop-thread l = l.walked.items ≡ map walked_of (take l.thread-index l.threads)
