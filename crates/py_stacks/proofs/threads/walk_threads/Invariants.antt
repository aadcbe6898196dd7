use Rattle.std.proofs.Common.{map, vec_len, ◌-◌}
use Rattle.py_builtins.specs.Consulted.{IsConsulted}
use Rattle.process_memory.specs.Memory.Fault.{ThreadLimit}
use Rattle.process_memory.specs.Walk.{Walking}
use Rattle.py_stacks.specs.Threads.{thread_step, thread_cost, thread_limit, trace_of}
use Rattle.py_stacks.proofs.threads.walk_threads.Given as goal

abbrev pub invariant-loop-at : goal.invariant-loop-at
invariant-loop-at g l = Walking (IsConsulted l.layout) ThreadLimit (thread_step l.asked l.layout) (thread_cost l.asked l.layout) thread_limit tt l.head (g.P.ProcessMemory.seen l.initial.process) (g.P.ProcessMemory.seen l.process) (map trace_of l.traces.items) (vec_len l.traces) tt l.at

abbrev pub decreases-loop-at : goal.decreases-loop-at
decreases-loop-at g l = thread_limit - vec_len l.traces
