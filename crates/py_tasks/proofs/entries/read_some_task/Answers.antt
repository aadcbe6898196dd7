use Rattle.std.proofs.Common.{◌+◌, ◌*◌, ap, arith, refl}
use Rattle.std.proofs.lemmas.Result.{err_from_is_err_and}
use Rattle.process_memory.proofs.Reading.{reads_end, reads_halt, reads_next}
use Rattle.py_names.specs.NamesError.{names_fault}
use Rattle.py_tasks.specs.Entries.{some_task_at}
use Rattle.py_tasks.proofs.entries.read_some_task.Goals as goal

pub returns-in_err-task : goal.returns-in_err-task
unfolding some_task_at
returns-in_err-task g c =
    let p = err_from_is_err_and c.from_residual.result c.from_residual.ensures.1 in
    rw p.1 (reads_halt (16503 + 17 * c.args.limit) p.0 _ c.in_err-task.ensures (ap names_fault p.2) (omega arith))

pub returns : goal.returns
unfolding some_task_at
returns g c = reads_next {k = 0} (16503 + 17 * c.args.limit) _ c.in_ok-task.ensures (reads_end 0 refl) (omega arith)
