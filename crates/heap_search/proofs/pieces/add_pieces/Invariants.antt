use Rattle.heap_search.proofs.PieceSteps.{Cutting}
use Rattle.heap_search.proofs.pieces.add_pieces.Given as goal

abbrev pub invariant-loop-turns : goal.invariant-loop-turns
invariant-loop-turns l = Cutting l.fn.pieces.items l.addr l.words l.pieces.items l.turns l.at l.left

abbrev pub decreases-loop-turns : goal.decreases-loop-turns
decreases-loop-turns l = l.turns
