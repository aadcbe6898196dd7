use Rattle.std.proofs.Common.{ap, arith}
use Rattle.std.proofs.lemmas.Result.{err_from_is_err_and}
use Rattle.process_memory.proofs.Reading.{reads_next, reads_halt}
use Rattle.py_builtins.specs.ObjectError.{object_fault}
use Rattle.type_places.specs.CoreTypes.{core_types_at}
use Rattle.type_places.proofs.code_types.core_types.Goals as goal

pub returns-in_err-met : goal.returns-in_err-met
unfolding core_types_at
returns-in_err-met g c =
    let p = err_from_is_err_and c.from_residual.result c.from_residual.ensures.1 in
    rw p.1 (reads_halt 17 p.0 _ c.in_err-met.ensures (ap object_fault p.2) (omega arith))

pub returns : goal.returns
unfolding core_types_at
returns g c =
    reads_next 17 _ c.in_ok-met.ensures
    c.checked_types.ensures (omega arith)
