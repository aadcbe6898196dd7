use Rattle.std.proofs.Common.{◌*◌}
use Rattle.py_waits.proofs.Firsts.{Looking}
use Rattle.py_waits.proofs.frames.in_frame.Given as goal

abbrev pub invariant-loop-number : goal.invariant-loop-number
invariant-loop-number g l =
    Looking (6 * l.number) (g.P.ProcessMemory.seen l.initial.process) (g.P.ProcessMemory.seen l.process) l.layout
    l.places l.at l.frame l.initial.found l.number l.found
