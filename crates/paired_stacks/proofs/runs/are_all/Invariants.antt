use Rattle.std.proofs.Common.{◌≡◌, ◌+◌, drop}
use Rattle.std.specs.List.{sum}
use Rattle.paired_stacks.proofs.runs.are_all.Given as goal

abbrev pub invariant-loop-size : goal.invariant-loop-size
invariant-loop-size l = sum l.sizes + l.left ≡ l.total + sum (drop l.size-index l.sizes)
