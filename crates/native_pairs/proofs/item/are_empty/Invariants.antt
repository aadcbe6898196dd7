use Rattle.std.proofs.Common.{◌≡◌, take}
use Rattle.std.specs.List.{sum}
use Rattle.native_pairs.proofs.item.are_empty.Given as goal

abbrev pub invariant-loop-size : goal.invariant-loop-size
invariant-loop-size l = sum (take l.size-index l.runs) ≡ 0
