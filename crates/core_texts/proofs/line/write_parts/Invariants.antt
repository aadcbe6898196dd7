use Rattle.std.proofs.Common.{take}
use Rattle.core_texts.specs.Parts.{said}
use Rattle.core_texts.specs.Says.{IsAdded}
use Rattle.core_texts.proofs.line.write_parts.Given as goal

abbrev pub invariant-loop-part : goal.invariant-loop-part
invariant-loop-part g l = IsAdded (g.S.Sink.seen l.initial.sink) (g.S.Sink.seen l.sink) (said (take l.part-index l.parts))
