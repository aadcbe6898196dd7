use Rattle.py_reprs.proofs.Mapping.{Mapping}
use Rattle.repr_types.specs.Found.{type_named}
use Rattle.repr_types.proofs.found.types_named.Given as goal

abbrev pub invariant-loop-number : goal.invariant-loop-number
invariant-loop-number g l =
    Mapping (λ m. type_named l.layout m) 2 (g.P.ProcessMemory.seen l.initial.process) (g.P.ProcessMemory.seen l.process)
    l.symbols l.number l.found.items
