use Rattle.std.proofs.Common.{ap, arith, refl}
use Rattle.std.proofs.lemmas.Result.{err_from_is_err_and}
use Rattle.process_memory.proofs.Reading.{reads_next, reads_halt, reads_end}
use Rattle.py_builtins.specs.ObjectError.{object_fault}
use Rattle.py_builtins.specs.Consulted.IsWidth.{Word}
use Rattle.py_builtins.proofs.Consulted.{reads_field}
use Rattle.type_places.specs.CoreTypes.{types_met_at}
use Rattle.type_places.proofs.code_types.types_met.Goals as goal

pub returns-in_err-class : goal.returns-in_err-class
unfolding types_met_at
returns-in_err-class g c =
    let p = err_from_is_err_and c.from_residual.result c.from_residual.ensures.1 in
    rw p.1 (reads_halt 10 p.0 _ c.in_err-class.ensures (ap object_fault p.2) (omega arith))

pub returns-in_err-metatype : goal.returns-in_err-metatype
unfolding types_met_at
returns-in_err-metatype g c =
    let p = err_from_is_err_and c.from_residual-in_err-metatype.result c.from_residual-in_err-metatype.ensures.1 in
    rw p.1 (reads_next 10 _ c.in_ok-class.ensures
    (reads_halt 1 p.0 _ c.in_err-metatype.ensures (ap object_fault p.2) (omega arith)) (omega arith))

pub returns-in_err-parts : goal.returns-in_err-parts
unfolding types_met_at
returns-in_err-parts g c =
    let p = err_from_is_err_and c.from_residual-in_err-parts.result c.from_residual-in_err-parts.ensures.1 in
    rw p.1 (reads_next 10 _ c.in_ok-class.ensures
    (reads_next 9 _ c.in_ok-metatype.ensures
    (reads_halt 6 p.0 _ c.in_err-parts.ensures (ap object_fault p.2) (omega arith)) (omega arith)) (omega arith))

pub returns-in_err-dict : goal.returns-in_err-dict
unfolding types_met_at
returns-in_err-dict g c =
    let p = err_from_is_err_and c.from_residual-in_err-dict.result c.from_residual-in_err-dict.ensures.1 in
    rw p.1 (reads_next 10 _ c.in_ok-class.ensures
    (reads_next 9 _ c.in_ok-metatype.ensures
    (reads_next 8 _ c.in_ok-parts.ensures
    (reads_halt 1 p.0 _ c.in_err-dict.ensures (ap object_fault p.2) (omega arith)) (omega arith)) (omega arith))
    (omega arith))

pub returns-in_err-object : goal.returns-in_err-object
unfolding types_met_at
returns-in_err-object g c =
    let p = err_from_is_err_and c.from_residual-in_err-object.result c.from_residual-in_err-object.ensures.1 in
    rw p.1 (reads_next 10 _ c.in_ok-class.ensures
    (reads_next 9 _ c.in_ok-metatype.ensures
    (reads_next 8 _ c.in_ok-parts.ensures
    (reads_next 2 _ c.in_ok-dict.ensures
    (reads_halt 1 p.0 _ (reads_field Word c.in_err-object.ensures.answer) p.2 (omega arith)) (omega arith))
    (omega arith)) (omega arith)) (omega arith))

pub returns : goal.returns
unfolding types_met_at
returns g c =
    reads_next 10 _ c.in_ok-class.ensures
    (reads_next 9 _ c.in_ok-metatype.ensures
    (reads_next 8 _ c.in_ok-parts.ensures
    (reads_next 2 _ c.in_ok-dict.ensures
    (reads_next 1 _ (reads_field Word c.in_ok-object.ensures.answer)
    (reads_end 0 refl) (omega arith)) (omega arith)) (omega arith)) (omega arith)) (omega arith)
