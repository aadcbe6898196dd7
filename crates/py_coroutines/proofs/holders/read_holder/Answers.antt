use Rattle.std.proofs.Common.{ap, arith, sym}
use Rattle.std.proofs.lemmas.Result.{err_from_is_err_and}
use Rattle.process_memory.proofs.Reading.{reading_short, reads_end, reads_halt, reads_next}
use Rattle.process_memory.specs.Seen.{read_fault}
use Rattle.py_coroutines.specs.Holders.{holder_at}
use Rattle.py_coroutines.proofs.holders.read_holder.Goals as goal

pub returns-in_err-flags : goal.returns-in_err-flags
unfolding holder_at
returns-in_err-flags g c =
    let p = err_from_is_err_and c.from_residual.result c.from_residual.ensures.1 in
    rw p.1 (reads_halt 4 p.0 _ (reading_short c.in_err-flags.ensures.answer) (ap read_fault p.2) (omega arith))

pub returns-in_err-size : goal.returns-in_err-size
unfolding holder_at
returns-in_err-size g c =
    let p = err_from_is_err_and c.from_residual-in_err-size.result c.from_residual-in_err-size.ensures.1 in
    rw p.1 (reads_next 4 _ (reading_short c.in_ok-flags.ensures.answer)
    (reads_halt 3 p.0 _ (reading_short c.in_err-size.ensures.answer) (ap read_fault p.2) (omega arith)) (omega arith))

pub returns-in_err-name : goal.returns-in_err-name
unfolding holder_at
returns-in_err-name g c =
    let p = err_from_is_err_and c.from_residual-in_err-name.result c.from_residual-in_err-name.ensures.1 in
    rw p.1 (reads_next 4 _ (reading_short c.in_ok-flags.ensures.answer)
    (reads_next 3 _ (reading_short c.in_ok-size.ensures.answer)
    (reads_halt 2 p.0 _ (reading_short c.in_err-name.ensures.answer) (ap read_fault p.2) (omega arith)) (omega arith)) (omega arith))

pub returns-in_err-holder : goal.returns-in_err-holder
unfolding holder_at
returns-in_err-holder g c =
    let p = err_from_is_err_and c.from_residual-in_err-holder.result c.from_residual-in_err-holder.ensures.1 in
    rw p.1 (reads_next 4 _ (reading_short c.in_ok-flags.ensures.answer)
    (reads_next 3 _ (reading_short c.in_ok-size.ensures.answer)
    (reads_next 2 _ (reading_short c.in_ok-name.ensures.answer)
    (reads_halt 1 p.0 _ c.in_err-holder.ensures (ap read_fault p.2) (omega arith)) (omega arith)) (omega arith)) (omega arith))

pub returns : goal.returns
unfolding holder_at
returns g c = reads_next 4 _ (reading_short c.in_ok-flags.ensures.answer)
    (reads_next 3 _ (reading_short c.in_ok-size.ensures.answer)
    (reads_next 2 _ (reading_short c.in_ok-name.ensures.answer)
    (reads_next {k = 0} 1 _ c.in_ok-holder.ensures (reads_end 0 (sym c.fits.ensures)) (omega arith)) (omega arith)) (omega arith)) (omega arith)
