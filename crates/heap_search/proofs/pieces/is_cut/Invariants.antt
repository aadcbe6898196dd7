use Rattle.heap_search.proofs.PieceSteps.{Cutting_off}
use Rattle.heap_search.proofs.pieces.is_cut.Given as goal

abbrev pub invariant-loop-segment : goal.invariant-loop-segment
invariant-loop-segment l = Cutting_off l.maps l.left l.segment-index
