use Rattle.task_sets.proofs.Gathering.{Gathering}
use Rattle.task_sets.specs.Sets.{object_at}
use Rattle.task_sets.proofs.sets.objects_in.Given as goal

abbrev pub invariant-loop-number : goal.invariant-loop-number
invariant-loop-number g l =
    Gathering (λ m. object_at l.places l.kind m l.table) 3 (g.P.ProcessMemory.seen l.initial.process)
    (g.P.ProcessMemory.seen l.process) l.count l.number l.objects.items
