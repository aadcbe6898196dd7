use Rattle.std.proofs.Common.{arith}
use Rattle.process_memory.proofs.Reading.{reading_gives, reading_then}
use Rattle.core_unwind.proofs.MarkSteps.{uncovered_is, uncovered_other}
use Rattle.core_unwind.proofs.marked.read_uncovered.Goals as goal

pub returns-in-Some : goal.returns-in-Some
returns-in-Some g c = reading_gives 69 _ c.in_ok-coded.ensures (omega arith) (λ m h. uncovered_is c.args.mappings.now
    c.args.manner.now m c.args.state.now c.args.tabled.now c.in-Some.going c.in_ok-coded.coded c.turn_by-turn.result
    c.in-Some.is h c.turn_by-turn.ensures)

pub returns-in-None : goal.returns-in-None
returns-in-None g c = reading_gives 69 _ (reading_then _ c.in_ok-coded.ensures c.read_guessed.ensures (λ m p q.
    uncovered_other c.args.mappings.now c.args.manner.now m c.args.state.now c.args.tabled.now c.in_ok-coded.coded
    c.read_guessed.result c.in-None.is p q)) (omega arith) (λ m h. h)
