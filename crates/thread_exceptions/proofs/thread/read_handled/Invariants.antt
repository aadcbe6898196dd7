use Rattle.thread_exceptions.specs.Thread.{handled_at, handled_of}
use Rattle.thread_exceptions.proofs.Eaching.{Eaching}
use Rattle.thread_exceptions.proofs.thread.read_handled.Given as goal

abbrev pub invariant-loop-item : goal.invariant-loop-item
invariant-loop-item g l = Eaching (λ h. handled_of h) (λ m a. handled_at l.places m l.thread a) 3 l.items
    (g.P.ProcessMemory.seen l.initial.process) (g.P.ProcessMemory.seen l.process) l.handled.items l.item-index
