use Rattle.py_fronts.proofs.FoundMarks.{Renamed}
use Rattle.py_fronts.proofs.interpreters.mark_named.Given as goal

abbrev pub invariant-loop-one : goal.invariant-loop-one
invariant-loop-one l = Renamed l.addr l.initial.one-items l.one-items l.one-index
