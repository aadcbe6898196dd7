use Rattle.std.proofs.Common.{◌≡◌, map}
use Rattle.std.specs.Prelude.{option_map}
use Rattle.std.specs.BTreeMap.{get}
use Rattle.std.specs.Ordering.{nat_cmp}
use Rattle.image_memory.specs.FileTables.{file_entry_of}
use Rattle.image_memory.specs.Maps.{placed_by}
use Rattle.image_memory.proofs.maps.places_of.Given as goal

abbrev pub invariant-loop-segment : goal.invariant-loop-segment
invariant-loop-segment l = l.places.items ≡ map (λ s. placed_by (option_map file_entry_of (get nat_cmp l.last s.addr))) l.yielded
