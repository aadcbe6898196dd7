use Rattle.std.proofs.Common.{ap, arith}
use Rattle.std.proofs.lemmas.Result.{err_from_is_err_and}
use Rattle.process_memory.proofs.Reading.{reads_next, reads_halt}
use Rattle.py_builtins.specs.ObjectError.{object_fault}
use Rattle.py_builtins.proofs.Consulted.{consults_fields}
use Rattle.type_places.specs.Holders.{holder_at}
use Rattle.type_places.proofs.holders.is_holder.Goals as goal

pub returns-in_err-class : goal.returns-in_err-class
unfolding holder_at
returns-in_err-class g c =
    let p = err_from_is_err_and c.from_residual.result c.from_residual.ensures.1 in
    rw p.1 (reads_halt 8 p.0 _ c.in_err-class.ensures (ap object_fault p.2) (omega arith))

pub returns-in_err-is_known : goal.returns-in_err-is_known
unfolding holder_at
returns-in_err-is_known g c =
    let p = err_from_is_err_and c.from_residual-in_err-is_known.result c.from_residual-in_err-is_known.ensures.1 in
    rw p.1 (reads_next 8 _ c.in_ok-class.ensures
    (reads_halt 6 p.0 _ c.in_err-is_known.ensures (ap object_fault p.2) (omega arith)) (omega arith))

pub returns : goal.returns
unfolding holder_at
returns g c =
    reads_next 8 _ c.in_ok-class.ensures
    (reads_next 6 _ c.in_ok-is_known.ensures
    (consults_fields c.args.layout.now c.holds_if.ensures) (omega arith)) (omega arith)
