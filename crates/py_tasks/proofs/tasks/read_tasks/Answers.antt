use Rattle.std.proofs.Common.{arith, refl}
use Rattle.py_tasks.specs.Tasks.{all_at, tasks_at}
use Rattle.process_memory.proofs.Reading.{reading_gives}
use Rattle.py_tasks.proofs.Losts.{tasks_lost}
use Rattle.py_tasks.proofs.tasks.read_tasks.Goals as goal

pub returns-in-Ok : goal.returns-in-Ok
unfolding tasks_at
returns-in-Ok g c = reading_gives _ _ c.in-Ok.ensures (omega arith) (λ m a. record { is = rw a.is refl })

pub returns-in-Err : goal.returns-in-Err
unfolding tasks_at
returns-in-Err g c = reading_gives _ _ c.in-Err.ensures (omega arith)
    (λ m a. tasks_lost (all_at c.args.layout.now c.args.records.now m c.args.slots c.args.interpreter) c.in-Err.error _ a
    c.lost_tasks.ensures)
