use Rattle.std.proofs.Common.{ap, arith, sym}
use Rattle.std.proofs.lemmas.Result.{err_from_is_err_and}
use Rattle.process_memory.proofs.Reading.{reading_short, reads_end, reads_halt, reads_next}
use Rattle.py_names.specs.NamesError.{names_fault}
use Rattle.py_tasks.specs.Fields.{fields, fields_at}
use Rattle.py_tasks.proofs.fields.read_fields.Goals as goal

pub returns-in_err-state : goal.returns-in_err-state
unfolding fields_at
returns-in_err-state g c =
    let p = err_from_is_err_and c.from_residual.result c.from_residual.ensures.1 in
    rw p.1 (reads_halt 5 p.0 _ c.in_err-state.ensures (ap names_fault p.2) (omega arith))

pub returns-in_err-cancel : goal.returns-in_err-cancel
unfolding fields_at
returns-in_err-cancel g c =
    let p = err_from_is_err_and c.from_residual-in_err-cancel.result c.from_residual-in_err-cancel.ensures.1 in
    rw p.1 (reads_next 5 _ c.in_ok-state.ensures (reads_halt 4 p.0 _
    (reading_short c.in_err-cancel.ensures.answer) p.2.0 (omega arith)) (omega arith))

pub returns-in_err-event_loop : goal.returns-in_err-event_loop
unfolding fields_at
returns-in_err-event_loop g c =
    let p = err_from_is_err_and c.from_residual-in_err-event_loop.result c.from_residual-in_err-event_loop.ensures.1 in
    rw p.1 (reads_next 5 _ c.in_ok-state.ensures (reads_next 4 _ (reading_short c.in_ok-cancel.ensures.answer)
    (reads_halt 3 p.0 _ (reading_short c.in_err-event_loop.ensures.answer) p.2.0 (omega arith)) (omega arith))
    (omega arith))

pub returns-in_err-waiter : goal.returns-in_err-waiter
unfolding fields_at
returns-in_err-waiter g c =
    let p = err_from_is_err_and c.from_residual-in_err-waiter.result c.from_residual-in_err-waiter.ensures.1 in
    rw p.1 (reads_next 5 _ c.in_ok-state.ensures (reads_next 4 _ (reading_short c.in_ok-cancel.ensures.answer)
    (reads_next 3 _ (reading_short c.in_ok-event_loop.ensures.answer)
    (reads_halt 2 p.0 _ (reading_short c.in_err-waiter.ensures.answer) p.2.0 (omega arith)) (omega arith))
    (omega arith)) (omega arith))

pub returns-in_err-coro : goal.returns-in_err-coro
unfolding fields_at
returns-in_err-coro g c =
    let p = err_from_is_err_and c.from_residual-in_err-coro.result c.from_residual-in_err-coro.ensures.1 in
    rw p.1 (reads_next 5 _ c.in_ok-state.ensures (reads_next 4 _ (reading_short c.in_ok-cancel.ensures.answer)
    (reads_next 3 _ (reading_short c.in_ok-event_loop.ensures.answer)
    (reads_next 2 _ (reading_short c.in_ok-waiter.ensures.answer)
    (reads_halt 1 p.0 _ (reading_short c.in_err-coro.ensures.answer) p.2.0 (omega arith)) (omega arith))
    (omega arith)) (omega arith)) (omega arith))

pub returns : goal.returns
unfolding fields_at
returns g c = (reads_next 5 _ c.in_ok-state.ensures (reads_next 4 _ (reading_short c.in_ok-cancel.ensures.answer)
    (reads_next 3 _ (reading_short c.in_ok-event_loop.ensures.answer)
    (reads_next 2 _ (reading_short c.in_ok-waiter.ensures.answer)
    (reads_next 1 _ (reading_short c.in_ok-coro.ensures.answer)
    (reads_end 0
    (ap (λ b. fields c.in_ok-state.state b c.in_ok-event_loop.event_loop c.in_ok-waiter.waiter c.in_ok-coro.coro)
    (sym c.has_bit-must_cancel.ensures))) (omega arith)) (omega arith)) (omega arith)) (omega arith)) (omega arith))
