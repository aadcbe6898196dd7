use Rattle.std.proofs.Common.{◌-◌}
use Rattle.py_fronts.specs.Candidates.{Following, idle_limit}
use Rattle.py_fronts.proofs.candidates.add_behind_idle.Given as goal

abbrev pub invariant-loop-passed : goal.invariant-loop-passed
invariant-loop-passed g l = Following l.layout l.place l.first (g.P.ProcessMemory.seen l.initial.process)
    (g.P.ProcessMemory.seen l.process) l.fn.words.items l.words.items l.passed l.at

abbrev pub decreases-loop-passed : goal.decreases-loop-passed
decreases-loop-passed g l = idle_limit - l.passed
