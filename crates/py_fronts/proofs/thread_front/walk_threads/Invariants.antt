use Rattle.std.proofs.Common.{◌-◌, length}
use Rattle.py_stacks.specs.Threads.{thread_limit}
use Rattle.py_fronts.specs.ThreadFronts.{Threading}
use Rattle.py_fronts.proofs.thread_front.walk_threads.Given as goal

abbrev pub invariant-loop-at : goal.invariant-loop-at
invariant-loop-at g l = Threading l.asked l.layout l.limit l.interpreter l.head l.fn.left (g.P.ProcessMemory.seen l.initial.process) (g.P.ProcessMemory.seen l.process) l.threads.items l.left l.at

abbrev pub decreases-loop-at : goal.decreases-loop-at
decreases-loop-at g l = thread_limit - length l.threads.items
