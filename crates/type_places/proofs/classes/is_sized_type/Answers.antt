use Rattle.std.proofs.Common.{ap, arith}
use Rattle.std.proofs.lemmas.Result.{err_from_is_err_and}
use Rattle.process_memory.proofs.Reading.{reads_next, reads_halt}
use Rattle.py_builtins.specs.ObjectError.{object_fault}
use Rattle.type_places.specs.Classes.{is_sized_type_at}
use Rattle.type_places.proofs.classes.is_sized_type.Goals as goal

pub returns-in_err-is : goal.returns-in_err-is
unfolding is_sized_type_at
returns-in_err-is g c =
    let p = err_from_is_err_and c.from_residual.result c.from_residual.ensures.1 in
    rw p.1 (reads_halt 3 p.0 _ c.in_err-is.ensures (ap object_fault p.2) (omega arith))

pub returns : goal.returns
unfolding is_sized_type_at
returns g c = reads_next 3 _ c.in_ok-is.ensures c.has_size_if.ensures (omega arith)
