use Rattle.std.proofs.Common.{ap, arith}
use Rattle.std.proofs.lemmas.Result.{err_from_is_err_and}
use Rattle.process_memory.specs.Seen.{read_fault}
use Rattle.process_memory.proofs.Reading.{reads_next, reads_halt, reading_short}
use Rattle.py_selftest.specs.Questions.{table_told}
use Rattle.py_selftest.proofs.questions.table_told.Goals as goal

pub returns-in_err-table : goal.returns-in_err-table
unfolding table_told
returns-in_err-table g c =
    let p = err_from_is_err_and c.from_residual.result c.from_residual.ensures.1 in
    rw p.1 (reads_halt 3 p.0 _ (reading_short c.in_err-table.ensures.answer) (ap read_fault p.2) (omega arith))

pub returns-in_err-length : goal.returns-in_err-length
unfolding table_told
returns-in_err-length g c =
    let p = err_from_is_err_and c.from_residual-in_err-length.result c.from_residual-in_err-length.ensures.1 in
    rw p.1 (reads_next 3 _ (reading_short c.in_ok-table.ensures.answer)
    (reads_halt 2 p.0 _ (reading_short c.in_err-length.ensures.answer) (ap read_fault p.2) (omega arith)) (omega
    arith))

pub returns : goal.returns
unfolding table_told
returns g c =
    (reads_next 3 _ (reading_short c.in_ok-table.ensures.answer)
    (reads_next 2 _ (reading_short c.in_ok-length.ensures.answer)
    c.end_told.ensures (omega arith)) (omega arith))
