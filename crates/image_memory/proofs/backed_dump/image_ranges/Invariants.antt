use Rattle.std.proofs.Common.{◌≡◌, ◌++◌, drop}
use Rattle.std.specs.Prelude.{All}
use Rattle.image_memory.specs.Backed.{IsInImage}
use Rattle.image_memory.specs.Images.{images_shown}
use Rattle.image_memory.proofs.BackedRanges.{ranges_from}
use Rattle.image_memory.proofs.backed_dump.image_ranges.Given as goal

abbrev pub invariant-loop-index : goal.invariant-loop-index
invariant-loop-index l = record {
  are : l.ranges.items ++ ranges_from l.images (drop l.index l.map-items) (drop l.index l.places) ≡ ranges_from l.images l.map-items l.places;
  fit : All (IsInImage (images_shown l.images)) l.ranges.items;
}
