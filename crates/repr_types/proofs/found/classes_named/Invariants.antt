use Rattle.py_reprs.proofs.Mapping.{Mapping}
use Rattle.repr_types.specs.Found.{class_named}
use Rattle.repr_types.proofs.found.classes_named.Given as goal

abbrev pub invariant-loop-number : goal.invariant-loop-number
invariant-loop-number g l =
    Mapping (λ m. class_named l.layout m) 1 (g.P.ProcessMemory.seen l.initial.process) (g.P.ProcessMemory.seen l.process)
    l.symbols l.number l.found.items
