use Rattle.std.proofs.Common.{take}
use Rattle.thread_names.proofs.NameSteps.{Naming}
use Rattle.thread_names.proofs.names.named_each.Given as goal

abbrev pub invariant-loop-id : goal.invariant-loop-id
invariant-loop-id g l = Naming l.layout l.rule l.threads (g.P.ProcessMemory.seen l.initial.process)
    (g.P.ProcessMemory.seen l.process) (take l.id-index l.ids) l.told.items
