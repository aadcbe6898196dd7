use Rattle.std.proofs.Common.{arith}
use Rattle.process_memory.proofs.Reading.{reading_gives, reading_none}
use Rattle.thread_exceptions.proofs.WhatSteps.{members_none, members_some}
use Rattle.thread_exceptions.proofs.groups.read_group.Goals as goal

pub returns-in-None : goal.returns-in-None
returns-in-None g c = reading_none 260 _ _ (λ m. members_none c.args.places.now m c.args.at c.args.class c.in-None.is)

pub returns-in-Some : goal.returns-in-Some
returns-in-Some g c = reading_gives _ _ c.read_if_group.ensures (omega arith)
    (λ m h. members_some c.args.places.now m c.args.at c.args.class c.in-Some.group c.read_if_group.result
    c.in-Some.is h)
