use Rattle.std.proofs.Common.{ap, arith, refl}
use Rattle.std.proofs.lemmas.Result.{err_from_is_err_and}
use Rattle.process_memory.proofs.Reading.{reads_end, reads_halt, reads_next}
use Rattle.py_names.specs.NamesError.{names_fault}
use Rattle.py_tasks.specs.Waiters.{some_waiter_at}
use Rattle.py_tasks.proofs.waiter.read_some.Goals as goal

pub returns-in_err-class : goal.returns-in_err-class
unfolding some_waiter_at
returns-in_err-class g c =
    let p = err_from_is_err_and c.from_residual.result c.from_residual.ensures.1 in
    rw p.1 (reads_halt 69 p.0 _ c.in_err-class.ensures (ap names_fault p.2) (omega arith))

pub returns-in_err-state : goal.returns-in_err-state
unfolding some_waiter_at
returns-in_err-state g c =
    let p = err_from_is_err_and c.from_residual-in_err-state.result c.from_residual-in_err-state.ensures.1 in
    rw p.1 (reads_next 69 _ c.in_ok-class.ensures (reads_halt 66 p.0 _ c.in_err-state.ensures (ap names_fault p.2)
    (omega arith)) (omega arith))

pub returns : goal.returns
unfolding some_waiter_at
returns g c = reads_next 69 _ c.in_ok-class.ensures (reads_next {k = 0} 66 _ c.in_ok-state.ensures (reads_end 0 refl)
    (omega arith)) (omega arith)
