use Rattle.std.proofs.Common.{◌≡◌, ◌++◌, map, take}
use Rattle.std.specs.List.{flat_map}
use Rattle.memory_builder.specs.Mirror.{item_in}
use Rattle.memory_builder.specs.Values.{laid_item}
use Rattle.memory_builder.proofs.values.add_items.Given as goal

-- the items so far
abbrev pub invariant-loop-item : goal.invariant-loop-item
invariant-loop-item l = l.out.items ≡ l.fn.out.items ++ flat_map (laid_item l.layout l.types)
    (take l.item-index (map item_in l.items))
