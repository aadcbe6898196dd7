use Rattle.std.specs.Prelude.{All}
use Rattle.piece_table.specs.Places.{IsBounded}
use Rattle.memory_tests.proofs.piece_table_tests.ranges_of.Given as goal

abbrev pub invariant-loop-row : goal.invariant-loop-row
invariant-loop-row l = All IsBounded l.ranges.items
