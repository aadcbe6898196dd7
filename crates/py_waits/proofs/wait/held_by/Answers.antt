use Rattle.std.proofs.Common.{ap, arith, refl, sym}
use Rattle.std.proofs.lemmas.Result.{err_from_is_err_and}
use Rattle.process_memory.specs.Seen.{read_fault}
use Rattle.process_memory.proofs.Reading.{reads_end, reads_halt, reads_next}
use Rattle.py_waits.proofs.wait.held_by.Goals as goal

pub returns-in-Lock : goal.returns-in-Lock
returns-in-Lock g c = rw c.in-Lock.is (reads_end 2 refl)

pub returns-in-Queue : goal.returns-in-Queue
returns-in-Queue g c = rw c.in-Queue.is (reads_end 2 refl)

pub returns-in_err-owner-in-Rlock : goal.returns-in_err-owner-in-Rlock
returns-in_err-owner-in-Rlock g c =
    let p = err_from_is_err_and c.from_residual.result c.from_residual.ensures.1 in
    rw (c.in-Rlock.is, p.1) (reads_halt 2 p.0 _ c.in_err-owner-in-Rlock.ensures (ap read_fault p.2) (omega arith))

pub returns-in_ok-owner-in-Rlock : goal.returns-in_ok-owner-in-Rlock
returns-in_ok-owner-in-Rlock g c =
    rw c.in-Rlock.is (reads_next 2 _ c.in_ok-owner-in-Rlock.ensures (reads_end 0 refl) (omega arith))
