use Rattle.py_layout.proofs.Judging.{NoneBelow}
use Rattle.py_layout.proofs.layouts.first_clash.Given as goal

abbrev pub invariant-loop-first : goal.invariant-loop-first
invariant-loop-first l = NoneBelow l.list l.first
