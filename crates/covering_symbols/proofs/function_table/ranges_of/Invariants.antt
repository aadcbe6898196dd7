use Rattle.std.proofs.Common.{◌≡◌, map, take, All}
use Rattle.piece_table.specs.Places.{IsBounded}
use Rattle.covering_symbols.specs.FunctionKeys.{range_of_key}
use Rattle.covering_symbols.proofs.function_table.ranges_of.Given as goal

abbrev pub invariant-loop-key : goal.invariant-loop-key
invariant-loop-key l = record {
  are : l.ranges.items ≡ map range_of_key (take l.key-index l.keys);
  bounded : All IsBounded l.ranges.items;
}
