use Rattle.std.proofs.Common.{ap, sym, arith}
use Rattle.std.proofs.lemmas.Result.{err_from_is_err_and}
use Rattle.process_memory.specs.Seen.{read_fault}
use Rattle.process_memory.proofs.Reading.{reads_next, reads_halt, reads_end, reading_short}
use Rattle.py_selftest.specs.Classes.{class_named}
use Rattle.py_selftest.proofs.classes.class_named.Goals as goal

pub returns-in_err-class : goal.returns-in_err-class
unfolding class_named
returns-in_err-class g c =
    let p = err_from_is_err_and c.from_residual.result c.from_residual.ensures.1 in
    rw p.1 (reads_halt 3 p.0 _ (reading_short c.in_err-class.ensures.answer) (ap read_fault p.2) (omega arith))

pub returns-in_err-at : goal.returns-in_err-at
unfolding class_named
returns-in_err-at g c =
    let p = err_from_is_err_and c.from_residual-in_err-at.result c.from_residual-in_err-at.ensures.1 in
    rw p.1 (reads_next 3 _ (reading_short c.in_ok-class.ensures.answer)
    (reads_halt 2 p.0 _ (reading_short c.in_err-at.ensures.answer) (ap read_fault p.2) (omega arith)) (omega arith))

pub returns-in_err-is : goal.returns-in_err-is
unfolding class_named
returns-in_err-is g c =
    let p = err_from_is_err_and c.from_residual-in_err-is.result c.from_residual-in_err-is.ensures.1 in
    rw p.1 (reads_next 3 _ (reading_short c.in_ok-class.ensures.answer)
    (reads_next 2 _ (reading_short c.in_ok-at.ensures.answer)
    (reads_halt 1 p.0 _ (c.in_err-is.ensures) (ap read_fault p.2) (omega arith)) (omega arith)) (omega arith))

pub returns : goal.returns
unfolding class_named
returns g c =
    (reads_next 3 _ (reading_short c.in_ok-class.ensures.answer)
    (reads_next 2 _ (reading_short c.in_ok-at.ensures.answer)
    (reads_next 1 _ (c.in_ok-is.ensures)
    (reads_end 0 (sym c.class_if.ensures)) (omega arith)) (omega arith)) (omega arith))
