use Rattle.thread_exceptions.proofs.Eaching.{Eaching}
use Rattle.py_heap.specs.Names.{named_at}
use Rattle.py_heap.proofs.names.read_each.Given as goal

abbrev pub invariant-loop-counted : goal.invariant-loop-counted
invariant-loop-counted g l =
    Eaching (λ named. named) (λ m c. named_at l.layout l.places m c) 16393 l.classes
    (g.P.ProcessMemory.seen l.initial.process) (g.P.ProcessMemory.seen l.process) l.named.items l.counted-index
