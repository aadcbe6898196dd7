use Rattle.std.proofs.Common.{ap, arith, ◌∙◌}
use Rattle.std.specs.Prelude.{not}
use Rattle.process_memory.proofs.Reading.{reading_gives}
use Rattle.thread_exceptions.specs.Thread.{flags_at}
use Rattle.thread_exceptions.proofs.ThreadSteps.{other_lost, other_read}
use Rattle.thread_exceptions.proofs.thread.is_other.Goals as goal

pub returns-in-Ok : goal.returns-in-Ok
returns-in-Ok g c = reading_gives 2 _ c.in-Ok.ensures (omega arith)
    (λ m p. ap not c.is_exception.ensures ∙ other_read (flags_at c.args.places.now m c.args.at) c.in-Ok.flags p)

pub returns-in_ok-lost_range-in-Err : goal.returns-in_ok-lost_range-in-Err
returns-in_ok-lost_range-in-Err g c = reading_gives 2 _ c.in-Err.ensures (omega arith)
    (λ m p. other_lost (flags_at c.args.places.now m c.args.at) c.in-Err.error c.in_ok-lost_range-in-Err.field-0 p
    c.in_ok-lost_range-in-Err.ensures)
