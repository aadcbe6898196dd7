use Rattle.std.proofs.Common.{take}
use Rattle.py_fronts.specs.Fronts.{Passing}
use Rattle.py_fronts.proofs.fronts.read_interpreters.Given as goal

abbrev pub invariant-loop-one : goal.invariant-loop-one
invariant-loop-one g l = Passing l.asked l.layout l.limit 4194304 (g.P.ProcessMemory.seen l.initial.process) (g.P.ProcessMemory.seen l.process) (take l.one-index l.found) l.interpreters.items l.left
