use Rattle.std.proofs.Common.{ap, arith}
use Rattle.std.proofs.lemmas.Result.{err_from_is_err_and}
use Rattle.process_memory.proofs.Reading.{reads_halt, reads_next}
use Rattle.py_names.specs.NamesError.{names_fault}
use Rattle.py_tasks.specs.Tasks.{typed_at}
use Rattle.py_tasks.proofs.tasks.read_typed.Goals as goal

pub returns-in_err-types : goal.returns-in_err-types
unfolding typed_at
returns-in_err-types g c =
    let p = err_from_is_err_and c.from_residual.result c.from_residual.ensures.1 in
    rw p.1 (reads_halt 1107984451 p.0 _ (rw c.sizes_of-sizes.ensures at c.in_err-types.ensures) (ap names_fault p.2)
    (omega arith))

pub returns : goal.returns
unfolding typed_at
returns g c = (reads_next 1107984451 _ (rw c.sizes_of-sizes.ensures at c.in_ok-types.ensures) c.read_described.ensures
    (omega arith))
