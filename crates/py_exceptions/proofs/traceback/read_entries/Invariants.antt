use Rattle.thread_exceptions.proofs.Eaching.{Eaching}
use Rattle.py_exceptions.specs.Frames.{entry_at}
use Rattle.py_exceptions.proofs.traceback.read_entries.Given as goal

abbrev pub invariant-loop-address : goal.invariant-loop-address
invariant-loop-address g l =
    Eaching (λ e. e) (λ m a. entry_at l.layout l.places m a) 10 l.addresses
    (g.P.ProcessMemory.seen l.initial.process) (g.P.ProcessMemory.seen l.process) l.entries.items l.address-index
