use Rattle.std.proofs.Common.{◌≡◌, map}
use Rattle.std.specs.Prelude.{option_map}
use Rattle.std.specs.BTreeMap.{get}
use Rattle.std.specs.Ordering.{nat_cmp}
use Rattle.image_memory.specs.FileTables.{file_entry_of}
use Rattle.image_memory.specs.Maps.{HoldNames, named_by}
use Rattle.image_memory.proofs.maps.maps_of.Given as goal

abbrev pub invariant-loop-segment : goal.invariant-loop-segment
invariant-loop-segment l = record {
  held : HoldNames (get nat_cmp l.names.names) (λ addr. option_map file_entry_of (get nat_cmp l.last addr));
  maps_are : l.maps.items ≡ map (λ s. named_by (option_map file_entry_of (get nat_cmp l.last s.addr)) s) l.yielded;
}
