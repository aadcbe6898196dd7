use Rattle.std.proofs.Common.{sym, ap, arith}
use Rattle.std.proofs.lemmas.Result.{err_from_is_err_and}
use Rattle.process_memory.proofs.Reading.{reads_next, reads_halt, reads_end}
use Rattle.py_builtins.specs.ObjectError.{object_fault}
use Rattle.type_places.specs.CoreTypes.{checked_types_at}
use Rattle.type_places.proofs.code_types.checked_types.Goals as goal

pub returns-in_err-are : goal.returns-in_err-are
unfolding checked_types_at
returns-in_err-are g c =
    let p = err_from_is_err_and c.from_residual.result c.from_residual.ensures.1 in
    rw p.1 (reads_halt 7 p.0 _ c.in_err-are.ensures (ap object_fault p.2) (omega arith))

pub returns : goal.returns
unfolding checked_types_at
returns g c = reads_next 7 _ c.in_ok-are.ensures (reads_end 0 (sym c.types_if.ensures)) (omega arith)
