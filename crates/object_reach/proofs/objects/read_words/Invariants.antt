use Rattle.object_reach.specs.Reading.{parts_told}
use Rattle.object_reach.proofs.PartSteps.{Filling}
use Rattle.object_reach.proofs.objects.read_words.Given as goal

-- the words of the parts so far
abbrev pub invariant-loop-number : goal.invariant-loop-number
invariant-loop-number g l = Filling (parts_told l.parts) (g.P.ProcessMemory.seen l.initial.process) (g.P.ProcessMemory.seen l.process) l.room l.number l.words.items
