use Rattle.std.proofs.Common.{ap, arith}
use Rattle.std.proofs.lemmas.Result.{err_from_is_err_and}
use Rattle.process_memory.proofs.Reading.{reading_short, reads_halt, reads_next}
use Rattle.py_names.specs.NamesError.{names_fault}
use Rattle.py_tasks.specs.Waiters.{future_state_at}
use Rattle.py_tasks.proofs.waiter.read_future.Goals as goal

pub returns-in_err-class : goal.returns-in_err-class
unfolding future_state_at
returns-in_err-class g c =
    let p = err_from_is_err_and c.from_residual.result c.from_residual.ensures.1 in
    rw p.1 (reads_halt 66 p.0 _ (reading_short c.in_err-class.ensures.answer) p.2.0 (omega arith))

pub returns-in_err-is_future : goal.returns-in_err-is_future
unfolding future_state_at
returns-in_err-is_future g c =
    let p = err_from_is_err_and c.from_residual-in_err-is_future.result c.from_residual-in_err-is_future.ensures.1 in
    rw p.1 (reads_next 66 _ (reading_short c.in_ok-class.ensures.answer)
    (reads_halt 65 p.0 _ c.in_err-is_future.ensures (ap names_fault p.2) (omega arith)) (omega arith))

pub returns : goal.returns
unfolding future_state_at
returns g c = (reads_next 66 _ (reading_short c.in_ok-class.ensures.answer)
    (reads_next 65 _ c.in_ok-is_future.ensures c.state_if.ensures (omega arith)) (omega arith))
