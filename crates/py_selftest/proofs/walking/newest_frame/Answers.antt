use Rattle.std.proofs.Common.{ap, refl, arith}
use Rattle.std.proofs.lemmas.Result.{err_from_is_err_and}
use Rattle.process_memory.specs.Seen.{read_fault}
use Rattle.process_memory.proofs.Reading.{reads_next, reads_halt, reads_end, reading_short}
use Rattle.py_selftest.specs.Walking.{newest_at}
use Rattle.py_selftest.proofs.walking.newest_frame.Goals as goal

pub returns-in_err-top : goal.returns-in_err-top
unfolding newest_at
returns-in_err-top g c =
    let p = err_from_is_err_and c.from_residual.result c.from_residual.ensures.1 in
    rw p.1 (reads_halt 2 p.0 _ (reading_short c.in_err-top.ensures.answer) (ap read_fault p.2) (omega arith))

pub returns-in_err-newest : goal.returns-in_err-newest
unfolding newest_at
returns-in_err-newest g c =
    let p = err_from_is_err_and c.from_residual-in_err-newest.result c.from_residual-in_err-newest.ensures.1 in
    rw p.1 (reads_next 2 _ (reading_short c.in_ok-top.ensures.answer)
    (reads_halt 1 p.0 _ (c.in_err-newest.ensures) (ap read_fault p.2) (omega arith)) (omega arith))

pub returns : goal.returns
unfolding newest_at
returns g c =
    (reads_next 2 _ (reading_short c.in_ok-top.ensures.answer)
    (reads_next 1 _ (c.in_ok-newest.ensures)
    (reads_end 0 refl) (omega arith)) (omega arith))
