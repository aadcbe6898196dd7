use Rattle.std.proofs.Common.{◌-◌}
use Rattle.py_reprs.proofs.Pieces.{HasRead}
use Rattle.py_reprs.proofs.fronts.read_pieces.Given as goal

abbrev pub invariant-loop-done : goal.invariant-loop-done
invariant-loop-done g l = HasRead l.at l.length (g.P.ProcessMemory.seen l.initial.process)
    (g.P.ProcessMemory.seen l.process) l.done l.bytes.items

abbrev pub decreases-loop-done : goal.decreases-loop-done
decreases-loop-done g l = l.length - l.done
