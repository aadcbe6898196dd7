use Rattle.std.proofs.Common.{ap, arith}
use Rattle.std.proofs.lemmas.Result.{err_from_is_err_and}
use Rattle.process_memory.proofs.Reading.{reading_short, reads_halt, reads_next}
use Rattle.process_memory.specs.Seen.{read_fault}
use Rattle.thread_exceptions.specs.Thread.{flags_at}
use Rattle.thread_exceptions.proofs.thread.read_flags.Goals as goal

pub returns-in_err-class : goal.returns-in_err-class
unfolding flags_at
returns-in_err-class g c =
    let p = err_from_is_err_and c.from_residual.result c.from_residual.ensures.1 in
    rw p.1 (reads_halt 2 p.0 _ (reading_short c.in_err-class.ensures.answer) (ap read_fault p.2) (omega arith))

pub returns : goal.returns
unfolding flags_at
returns g c = reads_next 2 _ (reading_short c.in_ok-class.ensures.answer) (reading_short c.word_past-2.ensures.answer)
    (omega arith)
