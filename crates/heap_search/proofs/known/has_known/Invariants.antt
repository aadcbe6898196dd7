use Rattle.std.proofs.Common.{◌-◌}
use Rattle.py_stacks.specs.Threads.{thread_limit}
use Rattle.heap_search.proofs.KnownSteps.{Walking}
use Rattle.heap_search.proofs.known.has_known.Given as goal

abbrev pub invariant-loop-at : goal.invariant-loop-at
invariant-loop-at g l = Walking l.layout l.pointers l.class l.interpreter l.head
    (g.P.ProcessMemory.seen l.initial.process) (g.P.ProcessMemory.seen l.process) l.met l.at

abbrev pub decreases-loop-at : goal.decreases-loop-at
decreases-loop-at g l = thread_limit - l.met
