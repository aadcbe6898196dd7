use Rattle.std.proofs.Common.{refl}
use Rattle.process_memory.proofs.Reading.{reads_end}
use Rattle.py_tasks.specs.Tasks.{by_roots_at}
use Rattle.py_tasks.proofs.tasks.read_by_roots.Goals as goal

pub returns-in-None : goal.returns-in-None
unfolding by_roots_at
returns-in-None g c = rw c.in-None.is (reads_end 1107984452 refl)

pub returns-in-Some : goal.returns-in-Some
unfolding by_roots_at
returns-in-Some g c = rw c.in-Some.is c.read_by_places.ensures
