use Rattle.py_reprs.specs.Values.{repr_at}
use Rattle.local_values.specs.Values.{held_in, local_cost}
use Rattle.local_values.proofs.Filling.{Filling}
use Rattle.local_values.proofs.values.read_round.Given as goal

abbrev pub invariant-loop-number : goal.invariant-loop-number
invariant-loop-number g l =
    Filling (λ m a. repr_at l.layout l.types l.limits m l.limits.levels l.limits.nodes a) (local_cost l.limits)
    (g.P.ProcessMemory.seen l.initial.process) (g.P.ProcessMemory.seen l.process) l.addresses l.number l.left
    (λ a. held_in l.initial.values a) (λ a. held_in l.values a)
