use Rattle.py_builtins.specs.Consulted.{IsConsulted}
use Rattle.py_stacks.specs.Values.{value_text, value_visits, with_value}
use Rattle.py_stacks.proofs.Passes.{Passing}
use Rattle.py_stacks.proofs.values.show_locals.Given as goal

abbrev pub invariant-loop-local : goal.invariant-loop-local
invariant-loop-local g l = Passing (IsConsulted l.layout) (λ v. v) (λ m. with_value (value_text l.layout m l.width)) (λ m v. value_visits l.layout m l.width v.addr)
    (g.P.ProcessMemory.seen l.initial.process) (g.P.ProcessMemory.seen l.process) l.initial.local-items l.local-items l.local-index
