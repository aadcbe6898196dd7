use Rattle.std.proofs.Common.{refl}
use Rattle.process_memory.proofs.Reading.{reads_end}
use Rattle.py_tasks.specs.Names.{name_at}
use Rattle.py_tasks.proofs.Nones.{reads_or_none}
use Rattle.py_tasks.proofs.names.read_name.Goals as goal

pub returns-in-None : goal.returns-in-None
unfolding name_at
returns-in-None g c = rw c.in-None.is (reads_end 5 refl)

pub returns-in-Some : goal.returns-in-Some
unfolding name_at
returns-in-Some g c = rw c.in-Some.is (reads_or_none c.read_own.ensures c.or_none.ensures)
