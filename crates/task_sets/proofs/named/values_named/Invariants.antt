use Rattle.std.proofs.Common.{length}
use Rattle.task_sets.proofs.Gathering.{Gathering}
use Rattle.task_sets.specs.Named.{named_by}
use Rattle.task_sets.proofs.named.values_named.Given as goal

abbrev pub invariant-loop-attribute : goal.invariant-loop-attribute
invariant-loop-attribute g l =
    Gathering (λ m. named_by l.layout m l.name l.attributes) 2 (g.P.ProcessMemory.seen l.initial.process)
    (g.P.ProcessMemory.seen l.process) (length l.attributes) l.attribute-index l.values.items
