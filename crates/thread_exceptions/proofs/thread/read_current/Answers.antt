use Rattle.std.proofs.Common.{ap, arith, sym}
use Rattle.std.proofs.lemmas.Result.{err_from_is_err_and}
use Rattle.process_memory.proofs.Reading.{reading_short, reads_end, reads_halt, reads_next}
use Rattle.process_memory.specs.Seen.{read_fault}
use Rattle.thread_exceptions.specs.Thread.{current_at}
use Rattle.thread_exceptions.proofs.thread.read_current.Goals as goal

pub returns-in_err-addr : goal.returns-in_err-addr
unfolding current_at
returns-in_err-addr g c =
    let p = err_from_is_err_and c.from_residual.result c.from_residual.ensures.1 in
    rw p.1 (reads_halt 2 p.0 _ (reading_short c.in_err-addr.ensures.answer) (ap read_fault p.2) (omega arith))

pub returns : goal.returns
unfolding current_at
returns g c = reads_next 2 _ (reading_short c.in_ok-addr.ensures.answer)
    (reads_end 0 (sym c.raised_exception.ensures)) (omega arith)
