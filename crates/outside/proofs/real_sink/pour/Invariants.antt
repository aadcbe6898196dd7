use Rattle.outside.proofs.Poured.{IsPoured}
use Rattle.outside.proofs.real_sink.pour.Given as goal

abbrev pub invariant-loop : goal.invariant-loop
invariant-loop g l = IsPoured (g.W.Write.contents l.initial.stream) (g.W.Write.contents l.stream) l.bytes l.rest
