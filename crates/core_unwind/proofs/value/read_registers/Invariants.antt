use Rattle.core_unwind.specs.Values.{value_of}
use Rattle.core_unwind.proofs.Filling.{Filling}
use Rattle.core_unwind.proofs.value.read_registers.Given as goal

abbrev pub invariant-loop-register : goal.invariant-loop-register
invariant-loop-register g l = Filling 257 (λ m k. value_of l.rules l.registers m l.cfa k)
    (g.P.ProcessMemory.seen l.initial.process) (g.P.ProcessMemory.seen l.process) l.values l.register
