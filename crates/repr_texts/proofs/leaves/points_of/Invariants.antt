use Rattle.std.proofs.Common.{◌≡◌, take}
use Rattle.repr_texts.proofs.leaves.points_of.Given as goal

abbrev pub invariant-loop-byte : goal.invariant-loop-byte
invariant-loop-byte l = l.points.items ≡ take l.byte-index l.bytes
