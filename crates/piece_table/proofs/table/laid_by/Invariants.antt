use Rattle.std.proofs.Common.{◌≡◌, ◌++◌, drop}
use Rattle.piece_table.specs.Places.{owned_by}
use Rattle.piece_table.proofs.table.laid_by.Given as goal

abbrev pub invariant-loop-number : goal.invariant-loop-number
invariant-loop-number g l = l.laid.items ++ owned_by (drop l.number l.pieces) (drop l.number l.owners) ≡ owned_by l.pieces l.owners
