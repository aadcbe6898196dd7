use Rattle.std.proofs.Common.{arith}
use Rattle.std.specs.Prelude.{◌+◌}
use Rattle.process_memory.proofs.Reading.{reading_gives, reading_short, reading_then}
use Rattle.process_memory.specs.Memory.{word_at}
use Rattle.thread_exceptions.proofs.ThreadSteps.{value_lost, value_read}
use Rattle.thread_exceptions.proofs.thread.read_value.Goals as goal

pub returns-in-Ok : goal.returns-in-Ok
returns-in-Ok g c = reading_gives 3 _ (reading_then _ (reading_short c.in-Ok.ensures.answer) c.read_named.ensures
    (λ m p q. value_read c.args.places.now m
    (word_at m (c.args.item + c.args.places.now.value)) c.in-Ok.addr c.read_named.result p q)) (omega arith)
    (λ m h. h)

pub returns-in_ok-lost_range-in-Err : goal.returns-in_ok-lost_range-in-Err
returns-in_ok-lost_range-in-Err g c = reading_gives 3 _ (reading_short c.in-Err.ensures.answer) (omega arith)
    (λ m p. value_lost c.args.places.now m
    (word_at m (c.args.item + c.args.places.now.value)) c.in-Err.error c.in_ok-lost_range-in-Err.field-0 p
    c.in_ok-lost_range-in-Err.ensures)
