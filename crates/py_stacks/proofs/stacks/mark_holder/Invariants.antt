use Rattle.py_stacks.specs.Stacks.{by_holder}
use Rattle.py_stacks.proofs.Marks.{Marked}
use Rattle.py_stacks.proofs.stacks.mark_holder.Given as goal

abbrev pub invariant-loop-trace : goal.invariant-loop-trace
invariant-loop-trace l = Marked (by_holder l.holder_id) l.initial.trace-items l.trace-items l.trace-index
