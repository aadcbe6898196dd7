use Rattle.std.proofs.Common.{arith}
use Rattle.process_memory.proofs.Reading.{reading_gives}
use Rattle.core_unwind.specs.Marks.{IsStep}
use Rattle.core_unwind.proofs.StackLaws.{stack_only}
use Rattle.core_unwind.proofs.MarkLaws.{step_once, tables_alone}
use Rattle.core_unwind.proofs.walk.read_stack.Goals as goal

pub returns-clause-only : goal.returns-clause-only
returns-clause-only g c = λ ascends. reading_gives _ _ c.follow.ensures (omega arith) (λ m h other is.
    stack_only (IsStep c.args.mappings.now c.args.manner.now m)
    (λ s x y p q. step_once c.args.mappings.now c.args.manner.now m s x y ascends p q) c.args.limit c.args.first.now
    c.follow.result h other is)

pub returns-clause-tables : goal.returns-clause-tables
returns-clause-tables g c = reading_gives _ _ c.follow.ensures (omega arith) (λ m h.
    tables_alone c.args.mappings.now c.args.manner.now m c.args.limit c.args.first.now c.follow.result h)
