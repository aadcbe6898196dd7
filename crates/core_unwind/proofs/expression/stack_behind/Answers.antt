use Rattle.std.proofs.Common.{ap, ◌∙◌}
use Rattle.process_memory.proofs.Reading.{reading_none}
use Rattle.frame_expressions.specs.Meanings.{based}
use Rattle.core_unwind.specs.Expressions.{loaded, stack_of}
use Rattle.core_unwind.specs.Registers.{register_in}
use Rattle.core_unwind.proofs.WordLaws.{arranged_same}
use Rattle.core_unwind.proofs.expression.stack_behind.Goals as goal

pub returns-in-Register : goal.returns-in-Register
returns-in-Register g c = reading_none 1 _ _ (λ m. rw c.in-Register.is (c.based.ensures
    ∙ ap (λ v. based v c.in-Register.offset (stack_of c.args.stack)) c.register_in.ensures))

pub returns-in-Push : goal.returns-in-Push
returns-in-Push g c = reading_none 1 _ _ (λ m. c.arranged.ensures
    ∙ arranged_same (register_in c.args.registers.now) (loaded m) c.args.operation (stack_of c.args.stack)
    (rw c.in-Push.is tt))

pub returns-in-Combine : goal.returns-in-Combine
returns-in-Combine g c = reading_none 1 _ _ (λ m. c.arranged-in-Combine.ensures
    ∙ arranged_same (register_in c.args.registers.now) (loaded m) c.args.operation (stack_of c.args.stack)
    (rw c.in-Combine.is tt))

pub returns-in-PlusConstant : goal.returns-in-PlusConstant
returns-in-PlusConstant g c = reading_none 1 _ _ (λ m. c.arranged-in-PlusConstant.ensures
    ∙ arranged_same (register_in c.args.registers.now) (loaded m) c.args.operation (stack_of c.args.stack)
    (rw c.in-PlusConstant.is tt))

pub returns-in-Drop : goal.returns-in-Drop
returns-in-Drop g c = reading_none 1 _ _ (λ m. c.arranged-in-Drop.ensures
    ∙ arranged_same (register_in c.args.registers.now) (loaded m) c.args.operation (stack_of c.args.stack)
    (rw c.in-Drop.is tt))

pub returns-in-Duplicate : goal.returns-in-Duplicate
returns-in-Duplicate g c = reading_none 1 _ _ (λ m. c.arranged-in-Duplicate.ensures
    ∙ arranged_same (register_in c.args.registers.now) (loaded m) c.args.operation (stack_of c.args.stack)
    (rw c.in-Duplicate.is tt))

pub returns-in-Over : goal.returns-in-Over
returns-in-Over g c = reading_none 1 _ _ (λ m. c.arranged-in-Over.ensures
    ∙ arranged_same (register_in c.args.registers.now) (loaded m) c.args.operation (stack_of c.args.stack)
    (rw c.in-Over.is tt))

pub returns-in-Swap : goal.returns-in-Swap
returns-in-Swap g c = reading_none 1 _ _ (λ m. c.arranged-in-Swap.ensures
    ∙ arranged_same (register_in c.args.registers.now) (loaded m) c.args.operation (stack_of c.args.stack)
    (rw c.in-Swap.is tt))

pub returns-in-Nop : goal.returns-in-Nop
returns-in-Nop g c = reading_none 1 _ _ (λ m. c.arranged-in-Nop.ensures
    ∙ arranged_same (register_in c.args.registers.now) (loaded m) c.args.operation (stack_of c.args.stack)
    (rw c.in-Nop.is tt))
