use Rattle.std.proofs.Common.{ap, sym, refl, arith}
use Rattle.std.proofs.lemmas.Result.{err_from_is_err_and}
use Rattle.process_memory.specs.Seen.{read_fault}
use Rattle.process_memory.proofs.Reading.{reads_next, reads_halt, reads_end, reading_short}
use Rattle.py_selftest.specs.Trusting.{table_at}
use Rattle.py_selftest.proofs.trusting.read_table.Goals as goal

pub returns-in-None : goal.returns-in-None
unfolding table_at
returns-in-None g c = rw c.in-None.is (reads_end 3 refl)

pub returns-in_err-cookie-in-Some : goal.returns-in_err-cookie-in-Some
unfolding table_at
returns-in_err-cookie-in-Some g c =
    let p = err_from_is_err_and c.from_residual.result c.from_residual.ensures.1 in
    rw (p.1, c.in-Some.is) (reads_halt 3 p.0 _ (reading_short c.in_err-cookie-in-Some.ensures.answer)
    (ap read_fault p.2) (omega arith))

pub returns-in_err-version-in-Some : goal.returns-in_err-version-in-Some
unfolding table_at
returns-in_err-version-in-Some g c =
    let p = err_from_is_err_and c.from_residual-in_err-version-in-Some.result
    c.from_residual-in_err-version-in-Some.ensures.1 in
    rw (p.1, c.in-Some.is) (reads_next 3 _ (reading_short c.in_ok-cookie-in-Some.ensures.answer)
    (reads_halt 2 p.0 _ (reading_short c.in_err-version-in-Some.ensures.answer) (ap read_fault p.2) (omega arith))
    (omega arith))

pub returns-in_err-free-in-Some : goal.returns-in_err-free-in-Some
unfolding table_at
returns-in_err-free-in-Some g c =
    let p = err_from_is_err_and c.from_residual-in_err-free-in-Some.result
    c.from_residual-in_err-free-in-Some.ensures.1 in
    rw (p.1, c.in-Some.is) (reads_next 3 _ (reading_short c.in_ok-cookie-in-Some.ensures.answer)
    (reads_next 2 _ (reading_short c.in_ok-version-in-Some.ensures.answer)
    (reads_halt 1 p.0 _ (reading_short c.in_err-free-in-Some.ensures.answer) (ap read_fault p.2) (omega arith))
    (omega arith)) (omega arith))

pub returns-in_ok-free-in-Some : goal.returns-in_ok-free-in-Some
unfolding table_at
returns-in_ok-free-in-Some g c =
    rw c.in-Some.is (reads_next 3 _ (reading_short c.in_ok-cookie-in-Some.ensures.answer)
    (reads_next 2 _ (reading_short c.in_ok-version-in-Some.ensures.answer)
    (reads_next 1 _ (reading_short c.in_ok-free-in-Some.ensures.answer) (reads_end 0 (sym c.table_by.ensures))
    (omega arith)) (omega arith)) (omega arith))
