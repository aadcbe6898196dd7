use Rattle.std.proofs.Common.{take}
use Rattle.py_fronts.specs.Candidates.{Leading}
use Rattle.py_fronts.proofs.candidates.add_led_to.Given as goal

abbrev pub invariant-loop-word : goal.invariant-loop-word
invariant-loop-word g l = Leading l.layout (g.P.ProcessMemory.seen l.initial.process)
    (g.P.ProcessMemory.seen l.process) l.fn.candidates.items (take l.word-index l.words) l.candidates.items l.place
