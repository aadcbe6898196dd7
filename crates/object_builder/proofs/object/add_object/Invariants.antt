use Rattle.std.proofs.Common.{List, ◌≡◌, ◌≤◌, ◌++◌, length, map, ℕ, drop}
use Rattle.object_builder.specs.Objects.{object}
use Rattle.object_builder.specs.Writes.{write_of}
use Rattle.object_builder.specs.declared.object.Write as w
use Rattle.object_builder.proofs.object.add_object.Given as goal

-- the writes from `left` on are made
pub record Making (before out : List ℕ) (size : ℕ) (ws : List w.Write) (left : ℕ) : Type 0 where
  pub within : left ≤ length ws
  pub made : out ≡ before ++ object size (map write_of (drop left ws))

abbrev pub invariant-loop-left : goal.invariant-loop-left
invariant-loop-left l = Making l.fn.out.items l.out.items l.size l.writes l.left

abbrev pub decreases-loop-left : goal.decreases-loop-left
decreases-loop-left l = l.left
