use Rattle.py_builtins.specs.Consulted.{IsConsulted}
use Rattle.py_stacks.specs.Frames.{call_of}
use Rattle.py_stacks.specs.Values.{call_visits, value_text, value_visits, with_values}
use Rattle.py_stacks.proofs.Passes.{Passing}
use Rattle.py_stacks.proofs.values.show_trace.Given as goal

abbrev pub invariant-loop-frame : goal.invariant-loop-frame
invariant-loop-frame g l = Passing (IsConsulted l.layout) call_of (λ m. with_values (value_text l.layout m l.width)) (λ m. call_visits (value_visits l.layout m l.width))
    (g.P.ProcessMemory.seen l.initial.process) (g.P.ProcessMemory.seen l.process) l.initial.frame-items l.frame-items l.frame-index
