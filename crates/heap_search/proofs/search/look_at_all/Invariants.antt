use Rattle.std.proofs.Common.{take}
use Rattle.heap_search.specs.Search.{search_of}
use Rattle.heap_search.proofs.SearchSteps.{LookingAt}
use Rattle.heap_search.proofs.search.look_at_all.Given as goal

abbrev pub invariant-loop-addr : goal.invariant-loop-addr
invariant-loop-addr g l = LookingAt (g.M.ContainsAddr.contains l.maps) l.layout l.pointers l.class
    (search_of l.fn.search) (g.P.ProcessMemory.seen l.initial.process) (g.P.ProcessMemory.seen l.process)
    (take l.addr-index l.addresses) l.search
