use Rattle.std.proofs.Common.{arith, ap, ◌∙◌, sym}
use Rattle.std.specs.Prelude.{Ok, min, ◌*◌}
use Rattle.process_memory.proofs.Reading.{reading_gives, reading_short}
use Rattle.process_memory.specs.Memory.{record_at}
use Rattle.thread_exceptions.proofs.WhatSteps.{group_lost, group_read}
use Rattle.thread_exceptions.proofs.groups.read_listed.Goals as goal

pub returns-in-Ok : goal.returns-in-Ok
returns-in-Ok g c = reading_gives 1 _ (reading_short (rw c.told_count-told.ensures at c.in-Ok.ensures.answer))
    (omega arith)
    (λ m p. group_read (record_at m c.args.row.first
    (8 * min c.args.row.count 4096)) c.args.row.count c.in-Ok.bytes.items c.listed.result p
    (rw c.deref.ensures.value at c.listed.ensures))

pub returns-in_ok-lost_range-in-Err : goal.returns-in_ok-lost_range-in-Err
returns-in_ok-lost_range-in-Err g c = reading_gives 1 _
    (reading_short (rw c.told_count-told.ensures at c.in-Err.ensures.answer)) (omega arith)
    (λ m p. group_lost (record_at m c.args.row.first (8 * min c.args.row.count 4096)) c.args.row.count c.in-Err.error
    c.in_ok-lost_range-in-Err.field-0 p c.in_ok-lost_range-in-Err.ensures)
