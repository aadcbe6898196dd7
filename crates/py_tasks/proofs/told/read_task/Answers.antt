use Rattle.std.proofs.Common.{◌+◌, ◌*◌, ap, arith, refl}
use Rattle.std.proofs.lemmas.Result.{err_from_is_err_and}
use Rattle.process_memory.proofs.Reading.{reads_end, reads_halt, reads_next}
use Rattle.py_names.specs.NamesError.{names_fault}
use Rattle.py_tasks.specs.Told.{task_at}
use Rattle.py_tasks.proofs.told.read_task.Goals as goal

pub returns-in_err-fields : goal.returns-in_err-fields
unfolding task_at
returns-in_err-fields g c =
    let p = err_from_is_err_and c.from_residual.result c.from_residual.ensures.1 in
    rw p.1 (reads_halt (16503 + 17 * c.args.limit) p.0 _ c.in_err-fields.ensures (ap names_fault p.2) (omega arith))

pub returns-in_err-name : goal.returns-in_err-name
unfolding task_at
returns-in_err-name g c =
    let p = err_from_is_err_and c.from_residual-in_err-name.result c.from_residual-in_err-name.ensures.1 in
    rw p.1 (reads_next (16503 + 17 * c.args.limit) _ c.in_ok-fields.ensures
    (reads_halt 5 p.0 _ c.in_err-name.ensures (ap names_fault p.2) (omega arith)) (omega arith))

pub returns-in_err-waiter : goal.returns-in_err-waiter
unfolding task_at
returns-in_err-waiter g c =
    let p = err_from_is_err_and c.from_residual-in_err-waiter.result c.from_residual-in_err-waiter.ensures.1 in
    rw p.1 (reads_next (16503 + 17 * c.args.limit) _ c.in_ok-fields.ensures (reads_next 74 _ c.in_ok-name.ensures
    (reads_halt 69 p.0 _ c.in_err-waiter.ensures (ap names_fault p.2) (omega arith)) (omega arith)) (omega arith))

pub returns-in_err-chain : goal.returns-in_err-chain
unfolding task_at
returns-in_err-chain g c =
    let p = err_from_is_err_and c.from_residual-in_err-chain.result c.from_residual-in_err-chain.ensures.1 in
    rw p.1 (reads_next (16503 + 17 * c.args.limit) _ c.in_ok-fields.ensures
    (reads_next (91 + 17 * c.args.limit) _ c.in_ok-name.ensures
    (reads_next (86 + 17 * c.args.limit) _ c.in_ok-waiter.ensures
    (reads_halt (17 * c.args.limit + 17) p.0 _ c.in_err-chain.ensures (ap names_fault p.2) (omega arith))
    (omega arith)) (omega arith)) (omega arith))

pub returns-in_err-thread_id : goal.returns-in_err-thread_id
unfolding task_at
returns-in_err-thread_id g c =
    let p = err_from_is_err_and c.from_residual-in_err-thread_id.result c.from_residual-in_err-thread_id.ensures.1 in
    let thread = rw c.is_running-runs.ensures at c.in_err-thread_id.ensures in
    rw p.1 (reads_next (16503 + 17 * c.args.limit) _ c.in_ok-fields.ensures
    (reads_next (16490 + 17 * c.args.limit) _ c.in_ok-name.ensures
    (reads_next (16485 + 17 * c.args.limit) _ c.in_ok-waiter.ensures
    (reads_next (16412 + 17 * c.args.limit) _ c.in_ok-chain.ensures
    (reads_halt 16395 p.0 _ thread (ap names_fault p.2) (omega arith)) (omega arith)) (omega arith)) (omega arith))
    (omega arith))

pub returns : goal.returns
unfolding task_at
returns g c =
    let thread = rw c.is_running-runs.ensures at c.in_ok-thread_id.ensures in
    reads_next (16503 + 17 * c.args.limit) _ c.in_ok-fields.ensures
    (reads_next (16490 + 17 * c.args.limit) _ c.in_ok-name.ensures
    (reads_next (16485 + 17 * c.args.limit) _ c.in_ok-waiter.ensures
    (reads_next (16412 + 17 * c.args.limit) _ c.in_ok-chain.ensures
    (reads_next {k = 0} 16395 _ thread (reads_end 0 refl) (omega arith)) (omega arith)) (omega arith)) (omega arith))
    (omega arith)
