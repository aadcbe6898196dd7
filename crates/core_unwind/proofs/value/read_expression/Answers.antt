use Rattle.std.proofs.Common.{◌≡◌, sym}
use Rattle.std.specs.Prelude.{None}
use Rattle.frame_tables.specs.Rows.{expression_of}
use Rattle.process_memory.proofs.Reading.{reading_none}
use Rattle.core_unwind.proofs.ReadSteps.{expressed_is}
use Rattle.core_unwind.proofs.value.read_expression.Goals as goal

pub returns-in-None : goal.returns-in-None
returns-in-None g c =
    let none : expression_of c.args.rules.now.table c.args.rules.now.entry c.args.start c.args.end ≡ None =
    sym (rw c.in-None.is at c.expression.ensures) in
    reading_none 256 _ _ (λ m. expressed_is c.args.rules.now c.args.registers.now m c.args.first c.args.start c.args.end
    None none)
