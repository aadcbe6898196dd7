use Rattle.std.proofs.Common.{◌-◌}
use Rattle.py_stacks.specs.Threads.{thread_limit}
use Rattle.py_fronts.specs.Interpreters.{Chaining}
use Rattle.py_fronts.proofs.search.walk_chain.Given as goal

abbrev pub invariant-loop-at : goal.invariant-loop-at
invariant-loop-at g l = Chaining l.layout l.interpreter l.head (g.P.ProcessMemory.seen l.initial.process) (g.P.ProcessMemory.seen l.process) l.members l.at

abbrev pub decreases-loop-at : goal.decreases-loop-at
decreases-loop-at g l = thread_limit - l.members
