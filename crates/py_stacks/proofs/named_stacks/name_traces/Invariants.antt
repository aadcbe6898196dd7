use Rattle.py_stacks.specs.NamedStacks.{by_name, name_in}
use Rattle.py_stacks.proofs.Marks.{Marked}
use Rattle.py_stacks.proofs.named_stacks.name_traces.Given as goal

abbrev pub invariant-loop-trace : goal.invariant-loop-trace
invariant-loop-trace l = Marked (by_name (name_in l.names)) l.initial.trace-items l.trace-items l.trace-index
