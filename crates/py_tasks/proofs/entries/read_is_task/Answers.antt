use Rattle.std.proofs.Common.{arith}
use Rattle.std.proofs.lemmas.Result.{err_from_is_err_and}
use Rattle.process_memory.proofs.Reading.{reading_short, reads_halt, reads_next}
use Rattle.py_tasks.specs.Entries.{is_task_at}
use Rattle.py_tasks.proofs.entries.read_is_task.Goals as goal

pub returns-in_err-class : goal.returns-in_err-class
unfolding is_task_at
returns-in_err-class g c =
    let p = err_from_is_err_and c.from_residual.result c.from_residual.ensures.1 in
    rw p.1 (reads_halt 65 p.0 _ (reading_short c.in_err-class.ensures.answer) p.2.0 (omega arith))

pub returns : goal.returns
unfolding is_task_at
returns g c = (reads_next 65 _ (reading_short c.in_ok-class.ensures.answer) c.leads_to.ensures (omega arith))
