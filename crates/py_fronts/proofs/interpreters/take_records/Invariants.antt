use Rattle.py_fronts.specs.Interpreters.{Turning, finds_of}
use Rattle.py_fronts.proofs.interpreters.take_records.Given as goal

abbrev pub invariant-loop-index : goal.invariant-loop-index
invariant-loop-index g l = Turning (g.M.ContainsAddr.contains l.maps) l.layout (finds_of l.fn.finds) (g.P.ProcessMemory.seen l.initial.process) (g.P.ProcessMemory.seen l.process) l.index l.finds
