use Rattle.std.proofs.Common.{ap, refl, arith}
use Rattle.std.proofs.lemmas.Result.{err_from_is_err_and}
use Rattle.process_memory.specs.Seen.{read_fault}
use Rattle.process_memory.proofs.Reading.{reads_next, reads_halt, reads_end}
use Rattle.py_selftest.specs.Classes.{types_met}
use Rattle.py_selftest.proofs.classes.types_met.Goals as goal

pub returns-in_err-of_code : goal.returns-in_err-of_code
unfolding types_met
returns-in_err-of_code g c =
    let p = err_from_is_err_and c.from_residual.result c.from_residual.ensures.1 in
    rw p.1 (reads_halt 22 p.0 _ (c.in_err-of_code.ensures) (ap read_fault p.2) (omega arith))

pub returns-in_err-metatype : goal.returns-in_err-metatype
unfolding types_met
returns-in_err-metatype g c =
    let p = err_from_is_err_and c.from_residual-in_err-metatype.result c.from_residual-in_err-metatype.ensures.1 in
    rw p.1 (reads_next 22 _ (c.in_ok-of_code.ensures)
    (reads_halt 19 p.0 _ (c.in_err-metatype.ensures) (ap read_fault p.2) (omega arith)) (omega arith))

pub returns-in_err-of_frame : goal.returns-in_err-of_frame
unfolding types_met
returns-in_err-of_frame g c =
    let p = err_from_is_err_and c.from_residual-in_err-of_frame.result c.from_residual-in_err-of_frame.ensures.1 in
    rw p.1 (reads_next 22 _ (c.in_ok-of_code.ensures)
    (reads_next 19 _ (c.in_ok-metatype.ensures)
    (reads_halt 15 p.0 _ (rw c.is_before-is_object.ensures at c.in_err-of_frame.ensures) (ap read_fault p.2) (omega
    arith)) (omega arith)) (omega arith))

pub returns-in_err-text : goal.returns-in_err-text
unfolding types_met
returns-in_err-text g c =
    let p = err_from_is_err_and c.from_residual-in_err-text.result c.from_residual-in_err-text.ensures.1 in
    rw p.1 (reads_next 22 _ (c.in_ok-of_code.ensures)
    (reads_next 19 _ (c.in_ok-metatype.ensures)
    (reads_next 15 _ (rw c.is_before-is_object.ensures at c.in_ok-of_frame.ensures)
    (reads_halt 12 p.0 _ (c.in_err-text.ensures) (ap read_fault p.2) (omega arith)) (omega arith)) (omega arith))
    (omega arith))

pub returns-in_err-tuple : goal.returns-in_err-tuple
unfolding types_met
returns-in_err-tuple g c =
    let p = err_from_is_err_and c.from_residual-in_err-tuple.result c.from_residual-in_err-tuple.ensures.1 in
    rw p.1 (reads_next 22 _ (c.in_ok-of_code.ensures)
    (reads_next 19 _ (c.in_ok-metatype.ensures)
    (reads_next 15 _ (rw c.is_before-is_object.ensures at c.in_ok-of_frame.ensures)
    (reads_next 12 _ (c.in_ok-text.ensures)
    (reads_halt 8 p.0 _ (c.in_err-tuple.ensures) (ap read_fault p.2) (omega arith)) (omega arith)) (omega arith))
    (omega arith)) (omega arith))

pub returns-in_err-of_bytes : goal.returns-in_err-of_bytes
unfolding types_met
returns-in_err-of_bytes g c =
    let p = err_from_is_err_and c.from_residual-in_err-of_bytes.result c.from_residual-in_err-of_bytes.ensures.1 in
    rw p.1 (reads_next 22 _ (c.in_ok-of_code.ensures)
    (reads_next 19 _ (c.in_ok-metatype.ensures)
    (reads_next 15 _ (rw c.is_before-is_object.ensures at c.in_ok-of_frame.ensures)
    (reads_next 12 _ (c.in_ok-text.ensures)
    (reads_next 8 _ (c.in_ok-tuple.ensures)
    (reads_halt 4 p.0 _ (rw c.bytes_name-bytes.ensures at c.in_err-of_bytes.ensures) (ap read_fault p.2) (omega
    arith)) (omega arith)) (omega arith)) (omega arith)) (omega arith)) (omega arith))

pub returns : goal.returns
unfolding types_met
returns g c =
    (reads_next 22 _ (c.in_ok-of_code.ensures)
    (reads_next 19 _ (c.in_ok-metatype.ensures)
    (reads_next 15 _ (rw c.is_before-is_object.ensures at c.in_ok-of_frame.ensures)
    (reads_next 12 _ (c.in_ok-text.ensures)
    (reads_next 8 _ (c.in_ok-tuple.ensures)
    (reads_next 4 _ (rw c.bytes_name-bytes.ensures at c.in_ok-of_bytes.ensures)
    (reads_end 0 refl) (omega arith)) (omega arith)) (omega arith)) (omega arith)) (omega arith)) (omega arith))
