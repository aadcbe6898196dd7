use Rattle.std.proofs.Common.{arith}
use Rattle.process_memory.proofs.Reading.{reading_gives, reading_then}
use Rattle.thread_exceptions.proofs.WhatSteps.{what_lost, what_read}
use Rattle.thread_exceptions.proofs.exception.read_what.Goals as goal

pub returns-in-Ok : goal.returns-in-Ok
returns-in-Ok g c = reading_gives 263 _ (reading_then _ c.in-Ok.ensures c.read_by_parts.ensures
    (λ m p q. what_read c.args.places.now m c.args.at c.in-Ok.parts c.read_by_parts.result p q)) (omega arith)
    (λ m h. h)

pub returns-in_ok-lost_range-in-Err : goal.returns-in_ok-lost_range-in-Err
returns-in_ok-lost_range-in-Err g c = reading_gives 263 _ c.in-Err.ensures (omega arith)
    (λ m p. what_lost c.args.places.now m c.args.at c.in-Err.error c.in_ok-lost_range-in-Err.field-0 p
    c.in_ok-lost_range-in-Err.ensures)
