use Rattle.std.proofs.Common.{ap, arith, sym}
use Rattle.std.proofs.lemmas.Result.{err_from_is_err_and}
use Rattle.process_memory.proofs.Reading.{reading_short, reads_end, reads_halt, reads_next}
use Rattle.process_memory.specs.Seen.{read_fault}
use Rattle.thread_exceptions.specs.Thread.{pair_at}
use Rattle.thread_exceptions.proofs.thread.read_pair.Goals as goal

pub returns-in_err-class : goal.returns-in_err-class
unfolding pair_at
returns-in_err-class g c =
    let p = err_from_is_err_and c.from_residual.result c.from_residual.ensures.1 in
    rw p.1 (reads_halt 2 p.0 _ (reading_short c.in_err-class.ensures.answer) (ap read_fault p.2) (omega arith))

pub returns-in_err-named : goal.returns-in_err-named
unfolding pair_at
returns-in_err-named g c =
    let p = err_from_is_err_and c.from_residual-in_err-named.result c.from_residual-in_err-named.ensures.1 in
    rw p.1 (reads_next 2 _ (reading_short c.in_ok-class.ensures.answer)
    (reads_halt 1 p.0 _ (reading_short c.in_err-named.ensures.answer) (ap read_fault p.2) (omega arith)) (omega arith))

pub returns : goal.returns
unfolding pair_at
returns g c = reads_next 2 _ (reading_short c.in_ok-class.ensures.answer)
    (reads_next 1 _ (reading_short c.in_ok-named.ensures.answer) (reads_end 0 (sym c.raised_parts.ensures))
    (omega arith)) (omega arith)
