use Rattle.py_builtins.specs.Consulted.{IsConsulted}
use Rattle.py_stacks.specs.Threads.{trace_of}
use Rattle.py_stacks.specs.Values.{by_value, trace_visits, value_text, value_visits}
use Rattle.py_stacks.proofs.Passes.{Passing}
use Rattle.py_stacks.proofs.values.show_traces.Given as goal

abbrev pub invariant-loop-trace : goal.invariant-loop-trace
invariant-loop-trace g l = Passing (IsConsulted l.layout) trace_of (λ m. by_value (value_text l.layout m l.width)) (λ m. trace_visits (value_visits l.layout m l.width))
    (g.P.ProcessMemory.seen l.initial.process) (g.P.ProcessMemory.seen l.process) l.initial.trace-items l.trace-items l.trace-index
