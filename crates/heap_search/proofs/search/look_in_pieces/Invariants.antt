use Rattle.std.proofs.Common.{take}
use Rattle.heap_search.specs.Search.{search_of}
use Rattle.heap_search.proofs.SearchSteps.{LookingIn}
use Rattle.heap_search.proofs.search.look_in_pieces.Given as goal

abbrev pub invariant-loop-piece : goal.invariant-loop-piece
invariant-loop-piece g l = LookingIn (g.M.ContainsAddr.contains l.maps) l.layout l.pointers l.class
    (search_of l.fn.search) (g.P.ProcessMemory.seen l.initial.process) (g.P.ProcessMemory.seen l.process)
    (take l.piece-index l.pieces) l.search
