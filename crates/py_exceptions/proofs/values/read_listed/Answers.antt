use Rattle.std.proofs.Common.{ap, arith}
use Rattle.process_memory.proofs.Reading.{reading_gives}
use Rattle.py_exceptions.specs.ValueLists.{values_at, values_by}
use Rattle.py_exceptions.proofs.Tells.{reading_and, reads_or_none, shown_as}
use Rattle.py_exceptions.proofs.values.read_listed.Goals as goal

pub returns : goal.returns
unfolding values_at
returns g c = reading_gives 97 _
    (reading_and (reads_or_none _ c.read_sequence-found.ensures c.in_ok-items.ensures) c.read_if_items.ensures)
    (omega arith) (λ m h. shown_as _ _ _ _ h.1 (ap (values_by c.args.layout.now m) h.0))
