use Rattle.std.proofs.Common.{◌∙◌, sym}
use Rattle.process_memory.proofs.Reading.{reading_none}
use Rattle.core_unwind.proofs.TurnSteps.{next_below, next_first, next_unknown}
use Rattle.core_unwind.proofs.turn.read_next.Goals as goal

pub returns-then-is_first : goal.returns-then-is_first
returns-then-is_first g c = reading_none 8224 _ _ (λ m. next_first c.args.code_bits c.args.state.now c.args.rules.now m
    c.args.cfa (sym c.is_first.ensures ∙ c.if-is_first.true))

pub returns-in_default : goal.returns-in_default
returns-in_default g c = reading_none 8224 _ _ (λ m. rw c.in_default.is (next_unknown c.args.code_bits c.args.state.now
    c.args.rules.now m (sym c.is_first.ensures ∙ c.if-is_first.false)))

pub returns-then-not-is_above : goal.returns-then-not-is_above
returns-then-not-is_above g c = reading_none 8224 _ _ (λ m. rw c.in-Some.is (next_below c.args.code_bits
    c.args.state.now c.args.rules.now m c.in-Some.cfa (sym c.is_first.ensures ∙ c.if-is_first.false)
    (sym c.is_above.ensures ∙ c.if-not-is_above.true)))
