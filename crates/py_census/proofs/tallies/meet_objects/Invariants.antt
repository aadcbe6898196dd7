use Rattle.std.proofs.Common.{◌*◌, take}
use Rattle.process_memory.specs.Seen.{Reading}
use Rattle.py_census.specs.Tallies.{AreTallied}
use Rattle.py_census.proofs.tallies.meet_objects.Given as goal

-- the objects so far
abbrev pub invariant-loop-object : goal.invariant-loop-object
invariant-loop-object g l = Reading (24 * l.object-index) (g.P.ProcessMemory.seen l.initial.process)
    (g.P.ProcessMemory.seen l.process)
    (λ m. AreTallied l.layout l.places m (take l.object-index l.objects) l.tallies l.unreadable)
