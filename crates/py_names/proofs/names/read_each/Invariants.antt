use Rattle.py_names.proofs.NameSteps.{Naming}
use Rattle.py_names.proofs.names.read_each.Given as goal

abbrev pub invariant-loop-number : goal.invariant-loop-number
invariant-loop-number g l = Naming l.layout l.dict.slots (g.P.ProcessMemory.seen l.initial.process) (g.P.ProcessMemory.seen l.process) l.limit l.number l.left l.names.items
