use Rattle.std.proofs.Common.{ap, arith, sym}
use Rattle.std.specs.Prelude.{Ok}
use Rattle.process_memory.proofs.Reading.{reading_gives}
use Rattle.thread_exceptions.specs.Groups.{group_class_at, known}
use Rattle.thread_exceptions.proofs.Steps.{is_lost}
use Rattle.thread_exceptions.proofs.groups.is_group_class.Goals as goal

pub returns-in-Ok : goal.returns-in-Ok
returns-in-Ok g c = reading_gives 3 _ c.in-Ok.ensures (omega arith) (λ m p. sym (ap known p.is))

pub returns-in_ok-lost_range-in-Err : goal.returns-in_ok-lost_range-in-Err
returns-in_ok-lost_range-in-Err g c = reading_gives 3 _ c.in-Err.ensures (omega arith)
    (λ m p. sym
    (ap known
    (is_lost
    (group_class_at c.args.places.now m c.args.class) c.in-Err.error c.in_ok-lost_range-in-Err.field-0 p
    c.in_ok-lost_range-in-Err.ensures)))
