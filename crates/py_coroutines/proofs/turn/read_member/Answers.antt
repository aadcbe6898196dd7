use Rattle.std.proofs.Common.{arith}
use Rattle.std.specs.Prelude.{Ok}
use Rattle.process_memory.proofs.Reading.{reading_gives}
use Rattle.py_coroutines.specs.Objects.{coroutine_at}
use Rattle.py_coroutines.proofs.TurnSteps.{member_known, member_lost}
use Rattle.py_coroutines.proofs.turn.read_member.Goals as goal

pub returns-in-Ok : goal.returns-in-Ok
returns-in-Ok g c = reading_gives 5 _ c.in-Ok.ensures (omega arith)
    (λ m p. member_known (coroutine_at c.args.places.now m c.args.at) _ p)

pub returns-in_ok-lost-in-Err : goal.returns-in_ok-lost-in-Err
returns-in_ok-lost-in-Err g c = reading_gives 5 _ c.in-Err.ensures (omega arith)
    (λ m p. member_lost (coroutine_at c.args.places.now m c.args.at) c.in-Err.error (Ok c.in_ok-lost-in-Err.field-0) p c.in_ok-lost-in-Err.ensures)
