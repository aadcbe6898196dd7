use Rattle.std.proofs.Common.{◌-◌, ◌^◌, length}
use Rattle.std.specs.BTreeMap.{keys}
use Rattle.object_reach.proofs.Searching.{Searching}
use Rattle.object_reach.proofs.search.search.Given as goal

-- what was read, and what waits
abbrev pub invariant-search : goal.invariant-search
invariant-search g l = Searching l.layout l.roots (g.P.ProcessMemory.seen l.initial.process) (g.P.ProcessMemory.seen l.process) l.done.entries l.pending.keys l.room

-- how many more objects there can be
abbrev pub decreases-search : goal.decreases-search
decreases-search g l = 2 ^ 20 - length (keys l.done)
