use Rattle.std.proofs.Common.{arith}
use Rattle.std.proofs.lemmas.Result.{err_from_is_err_and}
use Rattle.process_memory.proofs.Reading.{reading_short, reads_halt, reads_next}
use Rattle.py_tasks.specs.Tasks.{all_at}
use Rattle.py_tasks.proofs.tasks.read_all.Goals as goal

pub returns-in_err-modules : goal.returns-in_err-modules
unfolding all_at
returns-in_err-modules g c =
    let p = err_from_is_err_and c.from_residual.result c.from_residual.ensures.1 in
    rw p.1 (reads_halt 1109557324 p.0 _ (reading_short c.in_err-modules.ensures.answer) p.2.0 (omega arith))

pub returns : goal.returns
unfolding all_at
returns g c =
    reads_next 1109557324 _ (reading_short c.in_ok-modules.ensures.answer) c.read_by_modules.ensures (omega arith)
