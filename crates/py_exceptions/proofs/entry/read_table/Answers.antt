use Rattle.process_memory.proofs.Reading.{reading_here}
use Rattle.py_stacks.proofs.LineSteps.{bytes_short}
use Rattle.py_exceptions.proofs.entry.read_table.Goals as goal

pub returns-in-Ok-clause-short : goal.returns-in-Ok-clause-short
returns-in-Ok-clause-short g c =
    bytes_short c.args.layout.now _ c.args.addr c.in-Ok.table.items (reading_here c.in-Ok.ensures.answer).is
