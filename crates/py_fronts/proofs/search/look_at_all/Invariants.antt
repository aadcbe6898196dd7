use Rattle.std.proofs.Common.{take}
use Rattle.py_fronts.specs.Interpreters.{search_of}
use Rattle.py_fronts.proofs.SearchSteps.{Looking_at}
use Rattle.py_fronts.proofs.search.look_at_all.Given as goal

abbrev pub invariant-loop-addr : goal.invariant-loop-addr
invariant-loop-addr g l = Looking_at (g.M.ContainsAddr.contains l.maps) l.layout (search_of l.fn.search)
    (g.P.ProcessMemory.seen l.initial.process) (g.P.ProcessMemory.seen l.process) (take l.addr-index l.addresses)
    l.search
