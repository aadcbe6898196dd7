use Rattle.std.proofs.Common.{ap, sym, refl, arith}
use Rattle.std.proofs.lemmas.Result.{err_from_is_err_and}
use Rattle.process_memory.specs.Seen.{read_fault}
use Rattle.process_memory.proofs.Reading.{reads_next, reads_halt, reads_end, reading_short}
use Rattle.py_selftest.specs.Trusting.{own_place_at}
use Rattle.py_selftest.proofs.trusting.own_place.Goals as goal

pub returns-in-None : goal.returns-in-None
unfolding own_place_at
returns-in-None g c = rw c.in-None.is (reads_end 2 refl)

pub returns-in_err-usual-in-Some : goal.returns-in_err-usual-in-Some
unfolding own_place_at
returns-in_err-usual-in-Some g c =
    let p = err_from_is_err_and c.from_residual.result c.from_residual.ensures.1 in
    rw (p.1, c.in-Some.is) (reads_halt 2 p.0 _ (reading_short c.in_err-usual-in-Some.ensures.answer)
    (ap read_fault p.2) (omega arith))

pub returns-in_err-wide-in-Some : goal.returns-in_err-wide-in-Some
unfolding own_place_at
returns-in_err-wide-in-Some g c =
    let p = err_from_is_err_and c.from_residual-in_err-wide-in-Some.result
    c.from_residual-in_err-wide-in-Some.ensures.1 in
    rw (p.1, c.in-Some.is) (reads_next 2 _ (reading_short c.in_ok-usual-in-Some.ensures.answer)
    (reads_halt 1 p.0 _ (reading_short c.in_err-wide-in-Some.ensures.answer) (ap read_fault p.2) (omega arith))
    (omega arith))

pub returns-in_ok-wide-in-Some : goal.returns-in_ok-wide-in-Some
unfolding own_place_at
returns-in_ok-wide-in-Some g c =
    rw c.in-Some.is (reads_next 2 _ (reading_short c.in_ok-usual-in-Some.ensures.answer)
    (reads_next 1 _ (reading_short c.in_ok-wide-in-Some.ensures.answer) (reads_end 0 (sym c.own_from.ensures))
    (omega arith)) (omega arith))
