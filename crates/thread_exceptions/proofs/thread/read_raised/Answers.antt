use Rattle.std.proofs.Common.{ap, arith, sym}
use Rattle.process_memory.proofs.Reading.{reading_gives}
use Rattle.thread_exceptions.specs.Thread.{raised_by, raised_word_at}
use Rattle.thread_exceptions.proofs.ThreadSteps.{raised_lost}
use Rattle.thread_exceptions.proofs.thread.read_raised.Goals as goal

pub returns-in-Ok : goal.returns-in-Ok
returns-in-Ok g c = reading_gives 2 _ c.in-Ok.ensures (omega arith) (λ m p. sym (ap raised_by p.is))

pub returns-in_ok-lost_range-in-Err : goal.returns-in_ok-lost_range-in-Err
returns-in_ok-lost_range-in-Err g c = reading_gives 2 _ c.in-Err.ensures (omega arith)
    (λ m p. raised_lost
    (raised_word_at c.args.places.now.raised m c.args.thread) c.in-Err.error c.in_ok-lost_range-in-Err.field-0 p
    c.in_ok-lost_range-in-Err.ensures)
