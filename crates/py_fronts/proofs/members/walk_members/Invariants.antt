use Rattle.std.proofs.Common.{◌-◌}
use Rattle.py_fronts.specs.Members.{Meeting}
use Rattle.py_fronts.proofs.members.walk_members.Given as goal

abbrev pub invariant-loop-at : goal.invariant-loop-at
invariant-loop-at g l = Meeting l.layout l.limit l.first (g.P.ProcessMemory.seen l.initial.process) (g.P.ProcessMemory.seen l.process) l.kept.items l.met l.at

abbrev pub decreases-loop-at : goal.decreases-loop-at
decreases-loop-at g l = l.limit - l.met
