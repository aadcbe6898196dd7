use Rattle.thread_exceptions.specs.Discovery.{met_of}
use Rattle.thread_exceptions.proofs.Eaching.{Eaching}
use Rattle.py_exceptions.specs.Exceptions.{met_told_at, told_if}
use Rattle.py_exceptions.proofs.exception.read_all.Given as goal

abbrev pub invariant-loop-one : goal.invariant-loop-one
invariant-loop-one g l =
    Eaching (λ told. told_if told) (λ m x. met_told_at l.layout l.places m (met_of x)) 117623 l.met
    (g.P.ProcessMemory.seen l.initial.process) (g.P.ProcessMemory.seen l.process) l.all.items l.one-index
