use Rattle.std.proofs.Common.{◌-◌}
use Rattle.task_edges.specs.Edges.{sources_in}
use Rattle.task_edges.specs.Leading.{before}
use Rattle.task_edges.proofs.Searching.{Searching}
use Rattle.task_edges.proofs.search.search.Given as goal

abbrev pub invariant-search : goal.invariant-search
invariant-search l =
    Searching (before (sources_in l.index) l.tasks.keys) l.target l.limit l.list.items l.number l.met.keys

abbrev pub decreases-search : goal.decreases-search
decreases-search l = l.limit - l.number
