use Rattle.std.proofs.Common.{◌≡◌, ◌+◌, map, take}
use Rattle.std.specs.List.{sum_by}
use Rattle.memory_builder.specs.Chains.{addresses_from}
use Rattle.memory_builder.specs.Mirror.{local_in}
use Rattle.memory_builder.specs.Sizes.{local_size}
use Rattle.memory_builder.specs.Values.{address_array}
use Rattle.memory_builder.proofs.locals.value_addresses.Given as goal

-- the addresses so far, and the next one
abbrev pub invariant-loop-local : goal.invariant-loop-local
invariant-loop-local l = record {
  found : l.found.items ≡ address_array (addresses_from (local_size l.layout) l.at
      (take l.local-index (map local_in l.locals)));
  here : l.here ≡ l.at + sum_by (local_size l.layout) (take l.local-index (map local_in l.locals));
}
