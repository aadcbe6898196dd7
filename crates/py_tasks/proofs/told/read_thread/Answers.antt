use Rattle.std.proofs.Common.{refl}
use Rattle.process_memory.proofs.Reading.{reads_end}
use Rattle.py_tasks.specs.Told.{thread_at}
use Rattle.py_tasks.proofs.Nones.{reads_or_none}
use Rattle.py_tasks.proofs.told.read_thread.Goals as goal

pub returns-then-runs : goal.returns-then-runs
unfolding thread_at
returns-then-runs g c = rw c.if-runs.true (reads_or_none c.read_loop_thread.ensures c.or_none.ensures)

pub returns : goal.returns
unfolding thread_at
returns g c = rw c.if-runs.false (reads_end 16395 refl)
