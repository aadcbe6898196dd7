use Rattle.local_values.specs.Types.{name_in, type_cost, type_name_at}
use Rattle.local_values.proofs.Named.{Naming}
use Rattle.local_values.proofs.types.read_type_names.Given as goal

abbrev pub invariant-loop-number : goal.invariant-loop-number
invariant-loop-number g l =
    Naming (λ m a. type_name_at l.layout l.types m a) type_cost (g.P.ProcessMemory.seen l.initial.process)
    (g.P.ProcessMemory.seen l.process) l.addresses l.number (λ a. name_in l.names a)
