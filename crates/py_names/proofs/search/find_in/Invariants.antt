use Rattle.py_names.proofs.SearchSteps.{Searching}
use Rattle.py_names.proofs.search.find_in.Given as goal

abbrev pub invariant-loop-number : goal.invariant-loop-number
invariant-loop-number g l = Searching l.layout l.name l.dict.slots (g.P.ProcessMemory.seen l.initial.process) (g.P.ProcessMemory.seen l.process) l.limit l.number l.left
