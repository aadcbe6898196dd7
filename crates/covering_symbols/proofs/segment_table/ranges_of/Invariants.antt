use Rattle.std.proofs.Common.{◌≡◌, ◌++◌, drop, All}
use Rattle.piece_table.specs.Places.{IsBounded}
use Rattle.covering_symbols.specs.SegmentTables.{segment_ranges}
use Rattle.covering_symbols.proofs.segment_table.ranges_of.Given as goal

abbrev pub invariant-loop-number : goal.invariant-loop-number
invariant-loop-number l = record {
  are : l.ranges.items ++ segment_ranges l.number (drop l.number l.segments) ≡ segment_ranges 0 l.segments;
  bounded : All IsBounded l.ranges.items;
}
