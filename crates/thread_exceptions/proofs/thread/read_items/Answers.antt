use Rattle.std.proofs.Common.{arith}
use Rattle.process_memory.proofs.Reading.{reading_gives, reading_short, reading_then}
use Rattle.thread_exceptions.proofs.ThreadSteps.{items_lost, items_read}
use Rattle.thread_exceptions.proofs.thread.read_items.Goals as goal

pub returns-in-Ok : goal.returns-in-Ok
returns-in-Ok g c = reading_gives 4098 _
    (reading_then _ (reading_short c.in-Ok.ensures.answer) c.read_links.ensures.answer
    (λ m p q. items_read c.args.places.now m c.args.thread c.in-Ok.newest c.read_links.result p q)) (omega arith)
    (λ m h. h)

pub returns-in_ok-lost_range-in-Err : goal.returns-in_ok-lost_range-in-Err
returns-in_ok-lost_range-in-Err g c = rw c.new-members.ensures.items
    (reading_gives 4098 _ (reading_short c.in-Err.ensures.answer) (omega arith)
    (λ m p. items_lost c.args.places.now m c.args.thread c.in-Err.error c.in_ok-lost_range-in-Err.field-0 p
    c.in_ok-lost_range-in-Err.ensures))
