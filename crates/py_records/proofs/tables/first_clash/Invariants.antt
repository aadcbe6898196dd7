use Rattle.py_records.proofs.Judging.{NoneBelow}
use Rattle.py_records.proofs.tables.first_clash.Given as goal

abbrev pub invariant-loop-first : goal.invariant-loop-first
invariant-loop-first l = NoneBelow l.list l.first
