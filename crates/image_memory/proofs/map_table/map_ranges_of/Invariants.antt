use Rattle.std.proofs.Common.{◌≡◌, map, take}
use Rattle.std.specs.Prelude.{All}
use Rattle.image_memory.specs.MapTables.{map_range_of}
use Rattle.piece_table.specs.Places.{IsBounded}
use Rattle.image_memory.proofs.map_table.map_ranges_of.Given as goal

abbrev pub invariant-loop-map : goal.invariant-loop-map
invariant-loop-map l = record {
  are : l.ranges.items ≡ map map_range_of (take l.map-index l.maps);
  fit : All IsBounded l.ranges.items;
}
