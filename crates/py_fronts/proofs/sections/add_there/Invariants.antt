use Rattle.std.proofs.Common.{◌-◌}
use Rattle.py_fronts.specs.Candidates.{Adding}
use Rattle.py_fronts.proofs.sections.add_there.Given as goal

abbrev pub invariant-loop-done : goal.invariant-loop-done
invariant-loop-done g l = Adding l.at l.count (g.P.ProcessMemory.seen l.initial.process) (g.P.ProcessMemory.seen l.process)
    l.fn.words.items l.words.items l.done

abbrev pub decreases-loop-done : goal.decreases-loop-done
decreases-loop-done g l = l.count - l.done
