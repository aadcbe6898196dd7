use Rattle.std.proofs.Common.{ap, arith, refl, sym, ◌∙◌}
use Rattle.std.proofs.lemmas.Result.{err_from_is_err_and}
use Rattle.process_memory.proofs.Reading.{reading_short, reads_end, reads_halt, reads_next}
use Rattle.process_memory.specs.Seen.{read_fault}
use Rattle.py_coroutines.specs.Standings.{apart_standing, by_framed}
use Rattle.py_coroutines.proofs.standing.read_framed.Goals as goal

pub returns-in_err-bytes-in-At : goal.returns-in_err-bytes-in-At
unfolding by_framed
returns-in_err-bytes-in-At g c =
    let p = err_from_is_err_and c.from_residual.result c.from_residual.ensures.1 in
    rw (p.1, c.in-At.is) (reads_halt 1 p.0 _ (reading_short c.in_err-bytes-in-At.ensures.answer) (ap read_fault p.2) (omega arith))

pub returns-in_ok-bytes-in-At : goal.returns-in_ok-bytes-in-At
unfolding by_framed
returns-in_ok-bytes-in-At g c =
    let is = ap (apart_standing c.args.places.now) (sym c.deref.ensures.value) ∙ sym c.apart_standing.ensures in
    rw c.in-At.is (reads_next 1 _ (reading_short c.in_ok-bytes-in-At.ensures.answer) (reads_end 0 is) (omega arith))

pub returns-in-Finished : goal.returns-in-Finished
unfolding by_framed
returns-in-Finished g c = rw c.in-Finished.is (reads_end 1 refl)

pub returns-in-Running : goal.returns-in-Running
unfolding by_framed
returns-in-Running g c = rw c.in-Running.is (reads_end 1 refl)
