use Rattle.core_texts.proofs.Hex.{IsSpelt}
use Rattle.core_texts.proofs.line.hex.Given as goal

abbrev pub invariant-loop-rest : goal.invariant-loop-rest
invariant-loop-rest l = IsSpelt l.n l.rest l.at l.buf

abbrev pub decreases-loop-rest : goal.decreases-loop-rest
decreases-loop-rest l = l.rest
