use Rattle.std.proofs.Common.{ap, arith}
use Rattle.process_memory.proofs.Reading.{reading_gives}
use Rattle.py_exceptions.specs.Notes.{list_at, list_by}
use Rattle.py_exceptions.proofs.Tells.{reading_and, reads_or_none, shown_as}
use Rattle.py_exceptions.proofs.notes.read_list.Goals as goal

pub returns : goal.returns
unfolding list_at
returns g c = reading_gives 99 _
    (reading_and (reads_or_none _ c.read_sequence_of-found.ensures c.in_ok-sequence.ensures)
    c.read_by_sequence.ensures) (omega arith)
    (λ m h. shown_as _ _ _ _ h.1 (ap (list_by c.args.layout.now m c.args.at) h.0))
