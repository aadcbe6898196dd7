use Rattle.std.proofs.Common.{ap, arith, refl, sym}
use Rattle.std.proofs.lemmas.Result.{err_from_is_err_and}
use Rattle.process_memory.specs.Seen.{read_fault}
use Rattle.process_memory.proofs.Reading.{reads_end, reads_halt, reads_next}
use Rattle.py_waits.proofs.objects.held_at.Goals as goal

pub returns-in-None : goal.returns-in-None
returns-in-None g c = rw c.in-None.is (reads_end 1 refl)

pub returns-in_err-semaphore-in-Some : goal.returns-in_err-semaphore-in-Some
returns-in_err-semaphore-in-Some g c =
    let p = err_from_is_err_and c.from_residual.result c.from_residual.ensures.1 in
    rw (c.in-Some.is, p.1) (reads_halt 1 p.0 _ c.in_err-semaphore-in-Some.ensures (ap read_fault p.2) (omega arith))

pub returns-in_ok-semaphore-in-Some : goal.returns-in_ok-semaphore-in-Some
returns-in_ok-semaphore-in-Some g c =
    rw c.in-Some.is (reads_next 1 _ c.in_ok-semaphore-in-Some.ensures (reads_end 0 (sym c.waited_if.ensures))
    (omega arith))
