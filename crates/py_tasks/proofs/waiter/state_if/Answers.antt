use Rattle.std.proofs.Common.{ap, arith, refl}
use Rattle.std.proofs.lemmas.Result.{err_from_is_err_and}
use Rattle.process_memory.proofs.Reading.{reads_end, reads_halt, reads_next}
use Rattle.py_names.specs.NamesError.{names_fault}
use Rattle.py_tasks.specs.Waiters.{state_if}
use Rattle.py_tasks.proofs.waiter.state_if.Goals as goal

pub returns-in_err-state : goal.returns-in_err-state
unfolding state_if
returns-in_err-state g c =
    let p = err_from_is_err_and c.from_residual.result c.from_residual.ensures.1 in
    rw (p.1, c.if-is_future.true) (reads_halt 1 p.0 _ c.in_err-state.ensures (ap names_fault p.2) (omega arith))

pub returns-then-is_future : goal.returns-then-is_future
unfolding state_if
returns-then-is_future g c = rw c.if-is_future.true (reads_next {k = 0} 1 _ c.in_ok-state.ensures (reads_end 0 refl)
    (omega arith))

pub returns : goal.returns
unfolding state_if
returns g c = rw c.if-is_future.false (reads_end 1 refl)
