use Rattle.std.proofs.Common.{◌≡◌, map, take}
use Rattle.paired_stacks.specs.Laid.{size_of}
use Rattle.paired_stacks.proofs.runs.sizes_of.Given as goal

abbrev pub invariant-loop-run : goal.invariant-loop-run
invariant-loop-run l = l.sizes.items ≡ map size_of (take l.run-index l.runs)
