use Rattle.std.proofs.Common.{◌≡◌, map, take}
use Rattle.std.specs.List.{sum_by}
use Rattle.memory_builder.specs.Mirror.{item_in}
use Rattle.memory_builder.specs.Sizes.{capped, item_size}
use Rattle.memory_builder.proofs.sizes.items_size.Given as goal

-- the items so far
abbrev pub invariant-loop-item : goal.invariant-loop-item
invariant-loop-item l = l.total ≡ capped (sum_by (item_size l.layout) (take l.item-index (map item_in l.items)))
