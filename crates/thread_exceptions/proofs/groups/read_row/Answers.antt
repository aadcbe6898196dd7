use Rattle.std.proofs.Common.{ap, arith, refl}
use Rattle.std.proofs.lemmas.Result.{err_from_is_err_and}
use Rattle.process_memory.proofs.Reading.{reading_short, reads_end, reads_halt, reads_next}
use Rattle.process_memory.specs.Seen.{read_fault}
use Rattle.thread_exceptions.specs.Groups.{row_at}
use Rattle.thread_exceptions.proofs.groups.read_row.Goals as goal

pub returns-in_err-tuple : goal.returns-in_err-tuple
unfolding row_at
returns-in_err-tuple g c =
    let p = err_from_is_err_and c.from_residual.result c.from_residual.ensures.1 in
    rw p.1 (reads_halt 2 p.0 _ (reading_short c.in_err-tuple.ensures.answer) (ap read_fault p.2) (omega arith))

pub returns-in_err-count : goal.returns-in_err-count
unfolding row_at
returns-in_err-count g c =
    let p = err_from_is_err_and c.from_residual-in_err-count.result c.from_residual-in_err-count.ensures.1 in
    rw p.1 (reads_next 2 _ (reading_short c.in_ok-tuple.ensures.answer)
    (reads_halt 1 p.0 _ (reading_short c.in_err-count.ensures.answer) (ap read_fault p.2) (omega arith)) (omega arith))

pub returns : goal.returns
unfolding row_at
returns g c = reads_next 2 _ (reading_short c.in_ok-tuple.ensures.answer)
    (reads_next 1 _ (reading_short c.in_ok-count.ensures.answer) (reads_end 0 refl) (omega arith)) (omega arith)
