use Rattle.std.proofs.Common.{ap, arith, refl, sym}
use Rattle.std.proofs.lemmas.Result.{err_from_is_err_and}
use Rattle.process_memory.specs.Seen.{read_fault}
use Rattle.process_memory.proofs.Reading.{reads_end, reads_halt, reads_next}
use Rattle.py_waits.specs.Types.{places_at}
use Rattle.py_waits.proofs.types.read_places.Goals as goal

pub returns-in_err-modules : goal.returns-in_err-modules
unfolding places_at
returns-in_err-modules g c =
    let p = err_from_is_err_and c.from_residual.result c.from_residual.ensures.1 in
    rw p.1 ((reads_halt 786463 p.0 _ c.in_err-modules.ensures (ap read_fault p.2) (omega arith)))

pub returns-in_err-lock : goal.returns-in_err-lock
unfolding places_at
returns-in_err-lock g c =
    let p = err_from_is_err_and c.from_residual-in_err-lock.result c.from_residual-in_err-lock.ensures.1 in
    rw p.1 ((reads_next 786463 _ c.in_ok-modules.ensures
    (reads_halt 786462 p.0 _ c.in_err-lock.ensures (ap read_fault p.2) (omega arith)) (omega arith)))

pub returns-in_err-rlock : goal.returns-in_err-rlock
unfolding places_at
returns-in_err-rlock g c =
    let p = err_from_is_err_and c.from_residual-in_err-rlock.result c.from_residual-in_err-rlock.ensures.1 in
    rw p.1 ((reads_next 786463 _ c.in_ok-modules.ensures
    (reads_next 786462 _ c.in_ok-lock.ensures
    (reads_halt 524308 p.0 _ c.in_err-rlock.ensures (ap read_fault p.2) (omega arith)) (omega arith)) (omega arith)))

pub returns-in_err-queue : goal.returns-in_err-queue
unfolding places_at
returns-in_err-queue g c =
    let p = err_from_is_err_and c.from_residual-in_err-queue.result c.from_residual-in_err-queue.ensures.1 in
    rw p.1 ((reads_next 786463 _ c.in_ok-modules.ensures
    (reads_next 786462 _ c.in_ok-lock.ensures
    (reads_next 524308 _ c.in_ok-rlock.ensures
    (reads_halt 262154 p.0 _ c.in_err-queue.ensures (ap read_fault p.2) (omega arith)) (omega arith)) (omega arith))
    (omega arith)))

pub returns : goal.returns
unfolding places_at
returns g c =
    (reads_next 786463 _ c.in_ok-modules.ensures
    (reads_next 786462 _ c.in_ok-lock.ensures
    (reads_next 524308 _ c.in_ok-rlock.ensures
    (reads_next 262154 _ c.in_ok-queue.ensures
    (reads_end 0 (sym c.places_with.ensures)) (omega arith)) (omega arith)) (omega arith)) (omega arith))
