use Rattle.thread_names.proofs.Attributes.{Looking}
use Rattle.thread_names.proofs.own.first_named.Given as goal

abbrev pub invariant-loop-attribute : goal.invariant-loop-attribute
invariant-loop-attribute g l = Looking l.layout l.name l.attributes (g.P.ProcessMemory.seen l.initial.process)
    (g.P.ProcessMemory.seen l.process) l.attribute-index
