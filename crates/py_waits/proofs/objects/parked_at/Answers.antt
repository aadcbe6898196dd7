use Rattle.std.proofs.Common.{ap, arith, refl, sym}
use Rattle.std.proofs.lemmas.Result.{err_from_is_err_and}
use Rattle.process_memory.specs.Seen.{read_fault}
use Rattle.process_memory.proofs.Reading.{reads_end, reads_halt, reads_next}
use Rattle.py_waits.specs.Objects.{parked_at}
use Rattle.py_waits.proofs.objects.parked_at.Goals as goal

pub returns-in_err-mutex : goal.returns-in_err-mutex
unfolding parked_at
returns-in_err-mutex g c =
    let p = err_from_is_err_and c.from_residual.result c.from_residual.ensures.1 in
    let read = rw c.less.ensures at c.in_err-mutex.ensures in
    rw p.1 (reads_halt 3 p.0 _ read (ap read_fault p.2) (omega arith))

pub returns-in_err-lock : goal.returns-in_err-lock
unfolding parked_at
returns-in_err-lock g c =
    let p = err_from_is_err_and c.from_residual-in_err-lock.result c.from_residual-in_err-lock.ensures.1 in
    let read = rw c.less.ensures at c.in_ok-mutex.ensures in
    rw p.1 (reads_next 3 _ read (reads_halt 2 p.0 _ c.in_err-lock.ensures (ap read_fault p.2) (omega arith))
    (omega arith))

pub returns : goal.returns
unfolding parked_at
returns g c =
    let read = rw c.less.ensures at c.in_ok-mutex.ensures in
    reads_next 3 _ read (reads_next 2 _ c.in_ok-lock.ensures c.parked_else.ensures (omega arith)) (omega arith)
