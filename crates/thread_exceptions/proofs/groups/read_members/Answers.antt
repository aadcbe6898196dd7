use Rattle.std.proofs.Common.{arith}
use Rattle.process_memory.proofs.Reading.{reading_gives, reading_then}
use Rattle.thread_exceptions.specs.Groups.{row_at}
use Rattle.thread_exceptions.proofs.WhatSteps.{told_lost, told_read}
use Rattle.thread_exceptions.proofs.groups.read_members.Goals as goal

pub returns-in-Ok : goal.returns-in-Ok
returns-in-Ok g c = reading_gives 3 _ (reading_then _ c.in-Ok.ensures c.read_listed.ensures
    (λ m p q. told_read (row_at c.args.places.now m c.args.at) m c.in-Ok.row c.read_listed.result p q)) (omega arith)
    (λ m h. h)

pub returns-in_ok-lost_range-in-Err : goal.returns-in_ok-lost_range-in-Err
returns-in_ok-lost_range-in-Err g c = reading_gives 3 _ c.in-Err.ensures (omega arith)
    (λ m p. told_lost (row_at c.args.places.now m c.args.at) m c.in-Err.error c.in_ok-lost_range-in-Err.field-0 p
    c.in_ok-lost_range-in-Err.ensures)
