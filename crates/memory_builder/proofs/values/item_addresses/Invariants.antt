use Rattle.std.proofs.Common.{◌≡◌, ◌+◌, map, take}
use Rattle.std.specs.List.{sum_by}
use Rattle.memory_builder.specs.Chains.{addresses_from}
use Rattle.memory_builder.specs.Mirror.{item_in}
use Rattle.memory_builder.specs.Sizes.{item_size}
use Rattle.memory_builder.specs.Values.{address_array}
use Rattle.memory_builder.proofs.values.item_addresses.Given as goal

-- the addresses so far, and the next one
abbrev pub invariant-loop-item : goal.invariant-loop-item
invariant-loop-item l = record {
  found : l.found.items ≡ address_array (addresses_from (item_size l.layout) l.at
      (take l.item-index (map item_in l.items)));
  here : l.here ≡ l.at + sum_by (item_size l.layout) (take l.item-index (map item_in l.items));
}
