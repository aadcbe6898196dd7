use Rattle.std.proofs.Common.{ap, arith}
use Rattle.std.proofs.lemmas.Result.{err_from_is_err_and}
use Rattle.process_memory.proofs.Reading.{reads_halt, reads_next}
use Rattle.py_names.specs.NamesError.{names_fault}
use Rattle.py_tasks.specs.Tasks.{listed_at}
use Rattle.py_tasks.proofs.tasks.read_listed.Goals as goal

pub returns-in_err-registered : goal.returns-in_err-registered
unfolding listed_at
returns-in_err-registered g c =
    let p = err_from_is_err_and c.from_residual.result c.from_residual.ensures.1 in
    rw p.1 (reads_halt 1106935835 p.0 _ c.in_err-registered.ensures (ap names_fault p.2) (omega arith))

pub returns : goal.returns
unfolding listed_at
returns g c = (reads_next 1106935835 _ c.in_ok-registered.ensures (rw c.deref.ensures.value at c.read_few.ensures)
    (omega arith))
