use Rattle.core_unwind.specs.Expressions.{stack_of}
use Rattle.core_unwind.proofs.Evaluating.{Evaluating}
use Rattle.core_unwind.proofs.expression.evaluate.Given as goal

abbrev pub invariant-operations : goal.invariant-operations
invariant-operations g l = Evaluating l.registers l.fn.first l.fn.bytes (g.P.ProcessMemory.seen l.initial.process)
    (g.P.ProcessMemory.seen l.process) l.done l.rest (stack_of l.stack)
