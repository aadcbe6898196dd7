use Rattle.std.proofs.Common.{take}
use Rattle.py_fronts.specs.Standings.{Showing}
use Rattle.py_fronts.proofs.standing.read_standings.Given as goal

abbrev pub invariant-loop-at : goal.invariant-loop-at
invariant-loop-at g l = Showing l.asked l.layout (g.P.ProcessMemory.seen l.initial.process) (g.P.ProcessMemory.seen l.process) (take l.at-index l.members) l.standings.items
