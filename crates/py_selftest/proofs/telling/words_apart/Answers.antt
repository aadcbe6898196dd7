use Rattle.std.proofs.Common.{ap, sym, arith}
use Rattle.std.proofs.lemmas.Result.{err_from_is_err_and}
use Rattle.process_memory.specs.Seen.{read_fault}
use Rattle.process_memory.proofs.Reading.{reads_next, reads_halt, reads_end, reading_short}
use Rattle.py_selftest.specs.Telling.{words_apart}
use Rattle.py_selftest.proofs.telling.words_apart.Goals as goal

pub returns-in_err-number : goal.returns-in_err-number
unfolding words_apart
returns-in_err-number g c =
    let p = err_from_is_err_and c.from_residual.result c.from_residual.ensures.1 in
    rw p.1 (reads_halt 2 p.0 _ (reading_short c.in_err-number.ensures.answer) (ap read_fault p.2) (omega arith))

pub returns-in_err-by : goal.returns-in_err-by
unfolding words_apart
returns-in_err-by g c =
    let p = err_from_is_err_and c.from_residual-in_err-by.result c.from_residual-in_err-by.ensures.1 in
    rw p.1 (reads_next 2 _ (reading_short c.in_ok-number.ensures.answer)
    (reads_halt 1 p.0 _ (reading_short c.in_err-by.ensures.answer) (ap read_fault p.2) (omega arith)) (omega arith))

pub returns : goal.returns
unfolding words_apart
returns g c =
    reads_next 2 _ (reading_short c.in_ok-number.ensures.answer)
    (reads_next 1 _ (reading_short c.in_ok-by.ensures.answer) (reads_end 0 (sym c.less.ensures)) (omega arith))
    (omega arith)
