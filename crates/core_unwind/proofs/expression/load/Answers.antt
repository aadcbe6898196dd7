use Rattle.process_memory.proofs.Reading.{reading_none}
use Rattle.core_unwind.specs.Expressions.{stack_of}
use Rattle.core_unwind.proofs.WordLaws.{load_empty, load_other}
use Rattle.core_unwind.proofs.expression.load.Goals as goal

pub returns-in_default : goal.returns-in_default
returns-in_default g c = reading_none 1 _ _ (λ m.
    load_empty m c.args.size (stack_of c.args.stack) c.in_default.ensures)

pub returns-then-size-ne8 : goal.returns-then-size-ne8
returns-then-size-ne8 g c = reading_none 1 _ _ (λ m.
    load_other m c.args.size (stack_of c.args.stack) c.if-size-ne8.true)
