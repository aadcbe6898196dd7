use Rattle.std.proofs.Common.{arith}
use Rattle.std.specs.Prelude.{Ok}
use Rattle.process_memory.proofs.Reading.{reading_gives, reading_short, reading_then}
use Rattle.py_coroutines.proofs.TurnSteps.{turn_lost, turn_member, turn_other}
use Rattle.py_coroutines.proofs.turn.read_turn.Goals as goal

pub returns-in-Err : goal.returns-in-Err
returns-in-Err g c = reading_gives 7 _ (reading_short c.in-Err.ensures.answer) (omega arith)
    (λ m p. turn_lost c.args.places.now m c.args.at c.in-Err.error (Ok c.in_ok-lost-in-Err.field-0) p c.in_ok-lost-in-Err.ensures)

pub returns-in-Some : goal.returns-in-Some
returns-in-Some g c = reading_gives 7 _ (reading_then _ (reading_short c.in-Ok.ensures.answer) c.read_member.ensures
    (λ m p q. turn_member c.args.places.now m c.args.at c.in-Ok.class c.in-Some.field-0 c.read_member.result p c.in-Some.ensures q)) (omega arith) (λ m h. h)

pub returns-in-None : goal.returns-in-None
returns-in-None g c = reading_gives 7 _ (reading_then _ (reading_short c.in-Ok.ensures.answer) c.read_between.ensures
    (λ m p q. turn_other c.args.places.now m c.args.at c.in-Ok.class c.read_between.result p c.in-None.ensures q)) (omega arith) (λ m h. h)
