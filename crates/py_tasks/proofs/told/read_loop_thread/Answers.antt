use Rattle.std.proofs.Common.{ap, arith}
use Rattle.std.proofs.lemmas.Result.{err_from_is_err_and}
use Rattle.process_memory.proofs.Reading.{reads_halt, reads_next}
use Rattle.py_names.specs.NamesError.{names_fault}
use Rattle.py_tasks.specs.Told.{loop_thread_at}
use Rattle.py_tasks.proofs.told.read_loop_thread.Goals as goal

pub returns-in_err-number : goal.returns-in_err-number
unfolding loop_thread_at
returns-in_err-number g c =
    let p = err_from_is_err_and c.from_residual.result c.from_residual.ensures.1 in
    rw p.1 (reads_halt 16395 p.0 _ c.in_err-number.ensures (ap names_fault p.2) (omega arith))

pub returns : goal.returns
unfolding loop_thread_at
returns g c = (reads_next 16395 _ c.in_ok-number.ensures c.read_id.ensures (omega arith))
