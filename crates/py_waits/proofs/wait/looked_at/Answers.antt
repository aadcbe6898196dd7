use Rattle.std.proofs.Common.{ap, arith, refl, sym}
use Rattle.std.proofs.lemmas.Result.{err_from_is_err_and}
use Rattle.process_memory.specs.Seen.{read_fault}
use Rattle.process_memory.proofs.Reading.{reads_end, reads_halt, reads_next}
use Rattle.py_waits.specs.Waits.{looked_at}
use Rattle.py_waits.proofs.wait.looked_at.Goals as goal

pub returns-in_err-parked : goal.returns-in_err-parked
unfolding looked_at
returns-in_err-parked g c =
    let p = err_from_is_err_and c.from_residual.result c.from_residual.ensures.1 in
    rw p.1 ((reads_halt 2313 p.0 _ c.in_err-parked.ensures (ap read_fault p.2) (omega arith)))

pub returns-in_err-found : goal.returns-in_err-found
unfolding looked_at
returns-in_err-found g c =
    let p = err_from_is_err_and c.from_residual-in_err-found.result c.from_residual-in_err-found.ensures.1 in
    rw p.1 ((reads_next 2313 _ c.in_ok-parked.ensures
    (reads_halt 2310 p.0 _ c.in_err-found.ensures (ap read_fault p.2) (omega arith)) (omega arith)))

pub returns : goal.returns
unfolding looked_at
returns g c =
    (reads_next 2313 _ c.in_ok-parked.ensures
    (reads_next 2310 _ c.in_ok-found.ensures
    c.told_at.ensures (omega arith)) (omega arith))
