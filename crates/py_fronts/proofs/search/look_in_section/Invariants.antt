use Rattle.std.proofs.Common.{◌-◌}
use Rattle.py_fronts.specs.Interpreters.{search_of}
use Rattle.py_fronts.proofs.SearchSteps.{Passing_words}
use Rattle.py_fronts.proofs.search.look_in_section.Given as goal

abbrev pub invariant-loop-done : goal.invariant-loop-done
invariant-loop-done g l = Passing_words (g.M.ContainsAddr.contains l.maps) l.layout (search_of l.fn.search) l.addr
    l.count (g.P.ProcessMemory.seen l.initial.process) (g.P.ProcessMemory.seen l.process) l.done l.search

abbrev pub decreases-loop-done : goal.decreases-loop-done
decreases-loop-done g l = l.count - l.done
