use Rattle.std.proofs.Common.{◌≡◌, ◌++◌, All, drop}
use Rattle.piece_table.specs.Places.{IsBounded}
use Rattle.core_unwind.specs.CodeMaps.{ranges_from}
use Rattle.core_unwind.proofs.code_map.ranges_of.Given as goal

abbrev pub invariant-loop-number : goal.invariant-loop-number
invariant-loop-number l = record {
  are : l.ranges.items ++ ranges_from l.number (drop l.number l.mappings) ≡ ranges_from 0 l.mappings;
  bounded : All IsBounded l.ranges.items;
}
