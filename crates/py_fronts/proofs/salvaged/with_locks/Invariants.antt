use Rattle.py_process.specs.Facts.{known_of}
use Rattle.py_fronts.specs.Salvaged.{Locking}
use Rattle.py_fronts.proofs.salvaged.with_locks.Given as goal

abbrev pub invariant-loop-front : goal.invariant-loop-front
invariant-loop-front g l = Locking l.machine (known_of l.info) l.version l.layout
    (g.P.ProcessMemory.seen l.initial.process) (g.P.ProcessMemory.seen l.process) l.fn.fronts.items
    l.front-iterator.rest.items l.interpreters.items
