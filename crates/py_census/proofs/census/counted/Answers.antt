use Rattle.std.proofs.Common.{arith}
use Rattle.process_memory.specs.Memory.{byte_at}
use Rattle.process_memory.proofs.Reading.{reading_gives, reading_here}
use Rattle.py_census.proofs.Laws.{census, rise, small}
use Rattle.py_census.proofs.census.counted.Goals as goal

pub put_in_order-requires-clause-ascending : goal.put_in_order-requires-clause-ascending
put_in_order-requires-clause-ascending g c =
    rise c.args.layout.now c.args.places.now (byte_at
    (g.P.ProcessMemory.seen c.args.process.now).pieces) c.args.objects.now
    (reading_here c.in_ok-unreadable.ensures) c.in_ok-classes.ensures.ordered
    c.in_ok-classes.classes.items c.in_ok-classes.ensures.classes

pub put_in_order-requires-clause-capped : goal.put_in_order-requires-clause-capped
put_in_order-requires-clause-capped g c =
    small c.args.layout.now c.args.places.now (byte_at
    (g.P.ProcessMemory.seen c.args.process.now).pieces) c.args.objects.now
    (reading_here c.in_ok-unreadable.ensures) c.in_ok-classes.ensures.ordered
    c.in_ok-classes.classes.items c.in_ok-classes.ensures.classes

pub returns : goal.returns
returns g c = reading_gives _ _ c.in_ok-unreadable.ensures (omega arith)
    (λ m a. census c.args.layout.now c.args.places.now m c.args.objects.now a c.in_ok-classes.ensures.ordered
    c.in_ok-classes.classes.items c.put_in_order.new.classes.items c.in_ok-classes.ensures.classes
    c.in_ok-put_in_order.ensures.permutation c.in_ok-put_in_order.ensures.order)
