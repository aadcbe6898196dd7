use Rattle.core_unwind.specs.Trampolines.{saved}
use Rattle.core_unwind.proofs.Filling.{Filling}
use Rattle.core_unwind.proofs.trampoline.read_saved_registers.Given as goal

abbrev pub invariant-loop-register : goal.invariant-loop-register
invariant-loop-register g l = Filling 1 (λ m k. saved l.machine m l.top k)
    (g.P.ProcessMemory.seen l.initial.process) (g.P.ProcessMemory.seen l.process) l.values l.register
