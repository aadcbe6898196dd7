use Rattle.std.proofs.Common.{◌≡◌, ap, arith, refl, nat_eq, true, false}
use Rattle.std.proofs.lemmas.Result.{err_from_is_err_and}
use Rattle.process_memory.proofs.Reading.{reads_next, reads_halt, reads_end}
use Rattle.py_builtins.specs.ObjectError.{object_fault}
use Rattle.py_builtins.specs.Consulted.IsWidth.{Word}
use Rattle.py_builtins.proofs.Consulted.{reads_field}
use Rattle.std.proofs.lemmas.Bool.Decides.{nat_tests}
use Rattle.type_places.specs.Holders.{has_shape}
use Rattle.type_places.proofs.holders.has_shape.Goals as goal

pub returns-in_err-stated : goal.returns-in_err-stated
unfolding has_shape
returns-in_err-stated g c =
    let p = err_from_is_err_and c.from_residual.result c.from_residual.ensures.1 in
    rw p.1 (reads_halt 3 p.0 _ (reads_field Word c.in_err-stated.ensures.answer) p.2 (omega arith))

pub returns-in_err-metatype : goal.returns-in_err-metatype
unfolding has_shape
returns-in_err-metatype g c =
    let p = err_from_is_err_and c.from_residual-in_err-metatype.result c.from_residual-in_err-metatype.ensures.1 in
    rw p.1 (reads_next 3 _ (reads_field Word c.in_ok-stated.ensures.answer)
    (reads_halt 2 p.0 _ c.in_err-metatype.ensures (ap object_fault p.2) (omega arith)) (omega arith))

pub returns-in_err-own : goal.returns-in_err-own
unfolding has_shape
returns-in_err-own g c =
    let p = err_from_is_err_and c.from_residual-in_err-own.result c.from_residual-in_err-own.ensures.1 in
    rw p.1 (reads_next 3 _ (reads_field Word c.in_ok-stated.ensures.answer)
    (reads_next 2 _ c.in_ok-metatype.ensures
    (reads_halt 1 p.0 _ c.in_err-own.ensures (ap object_fault p.2) (omega arith)) (omega arith)) (omega arith))

pub returns-then-stated-basic_size : goal.returns-then-stated-basic_size
unfolding has_shape
returns-then-stated-basic_size g c =
    let is : nat_eq c.in_ok-stated.stated c.args.basic_size ≡ true = grind
    (arith, nat_tests, c.if-stated-basic_size.true) in
    reads_next 3 _ (reads_field Word c.in_ok-stated.ensures.answer)
    (reads_next 2 _ c.in_ok-metatype.ensures
    (reads_next 1 _ c.in_ok-own.ensures
    (reads_end 0 (rw is refl)) (omega arith)) (omega arith)) (omega arith)

pub returns-else-stated-basic_size : goal.returns-else-stated-basic_size
unfolding has_shape
returns-else-stated-basic_size g c =
    let is : nat_eq c.in_ok-stated.stated c.args.basic_size ≡ false = grind
    (arith, nat_tests, c.if-stated-basic_size.false) in
    reads_next 3 _ (reads_field Word c.in_ok-stated.ensures.answer)
    (reads_next 2 _ c.in_ok-metatype.ensures
    (reads_next 1 _ c.in_ok-own.ensures
    (reads_end 0 (rw is refl)) (omega arith)) (omega arith)) (omega arith)
