use Rattle.std.proofs.Common.{arith, refl}
use Rattle.std.specs.Prelude.{Ok}
use Rattle.process_memory.proofs.Reading.{reading_gives, reading_none, reading_short}
use Rattle.thread_exceptions.proofs.Steps.{turn_lost, turn_null, turn_read}
use Rattle.thread_exceptions.proofs.links.read_turn.Goals as goal

pub returns-then-at-eq0 : goal.returns-then-at-eq0
returns-then-at-eq0 g c = reading_none 1 _ _ (λ m. turn_null c.args.offset m c.args.at c.if-at-eq0.true)

pub returns-in-Ok : goal.returns-in-Ok
returns-in-Ok g c = reading_gives 1 _ (reading_short c.in-Ok.ensures.answer) (omega arith)
    (λ m p. turn_read c.args.offset m c.args.at c.in-Ok.next c.if-at-eq0.false p)

pub returns-in_ok-lost_range-in-Err : goal.returns-in_ok-lost_range-in-Err
returns-in_ok-lost_range-in-Err g c = reading_gives 1 _ (reading_short c.in-Err.ensures.answer) (omega arith)
    (λ m p. turn_lost c.args.offset m c.args.at c.in-Err.error
    (Ok c.in_ok-lost_range-in-Err.field-0) c.if-at-eq0.false p c.in_ok-lost_range-in-Err.ensures)
