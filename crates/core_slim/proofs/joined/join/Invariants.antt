use Rattle.core_slim.proofs.Joining.{IsJoining}
use Rattle.core_slim.proofs.joined.join.Given as goal

abbrev pub invariant-loop-range : goal.invariant-loop-range
invariant-loop-range l = IsJoining l.fn.first l.others l.pieces.items l.last l.range-index
