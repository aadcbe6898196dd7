use Rattle.heap_search.proofs.PieceSteps.{Heaping}
use Rattle.heap_search.proofs.pieces.heap_pieces.Given as goal

abbrev pub invariant-loop-segment : goal.invariant-loop-segment
invariant-loop-segment l = Heaping l.maps l.pieces.items l.left l.segment-index
