use Rattle.std.proofs.Common.{◌-◌}
use Rattle.piece_table.specs.Places.{IsStretch}
use Rattle.piece_table.proofs.table.PieceTable.run.Given as goal

abbrev pub invariant-loop-run : goal.invariant-loop-run
invariant-loop-run l = IsStretch l.self l.addr l.len l.run.file l.run.start l.run.size

abbrev pub decreases-loop-run : goal.decreases-loop-run
decreases-loop-run l = l.len - l.run.size
