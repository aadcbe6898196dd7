use Rattle.std.proofs.Common.{ap, arith, refl}
use Rattle.std.proofs.lemmas.Result.{err_from_is_err_and}
use Rattle.process_memory.proofs.Reading.{reads_next, reads_halt, reads_end}
use Rattle.py_builtins.specs.ObjectError.{object_fault}
use Rattle.type_places.specs.CoreTypes.{code_parts_at}
use Rattle.type_places.proofs.code_types.code_parts.Goals as goal

pub returns-in_err-text : goal.returns-in_err-text
unfolding code_parts_at
returns-in_err-text g c =
    let p = err_from_is_err_and c.from_residual.result c.from_residual.ensures.1 in
    rw p.1 (reads_halt 6 p.0 _ c.in_err-text.ensures (ap object_fault p.2) (omega arith))

pub returns-in_err-bytes : goal.returns-in_err-bytes
unfolding code_parts_at
returns-in_err-bytes g c =
    let p = err_from_is_err_and c.from_residual-in_err-bytes.result c.from_residual-in_err-bytes.ensures.1 in
    rw p.1 (reads_next 6 _ c.in_ok-text.ensures
    (reads_halt 2 p.0 _ c.in_err-bytes.ensures (ap object_fault p.2) (omega arith)) (omega arith))

pub returns-in_err-tuple : goal.returns-in_err-tuple
unfolding code_parts_at
returns-in_err-tuple g c =
    let p = err_from_is_err_and c.from_residual-in_err-tuple.result c.from_residual-in_err-tuple.ensures.1 in
    rw p.1 (reads_next 6 _ c.in_ok-text.ensures
    (reads_next 4 _ c.in_ok-bytes.ensures
    (reads_halt 2 p.0 _ c.in_err-tuple.ensures (ap object_fault p.2) (omega arith)) (omega arith)) (omega arith))

pub returns : goal.returns
unfolding code_parts_at
returns g c =
    reads_next 6 _ c.in_ok-text.ensures
    (reads_next 4 _ c.in_ok-bytes.ensures
    (reads_next 2 _ c.in_ok-tuple.ensures
    (reads_end 0 refl) (omega arith)) (omega arith)) (omega arith)
