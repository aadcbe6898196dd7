use Rattle.std.proofs.Common.{ap, arith, refl}
use Rattle.std.proofs.lemmas.Result.{err_from_is_err_and}
use Rattle.process_memory.proofs.Reading.{reads_end, reads_halt, reads_next}
use Rattle.py_names.specs.NamesError.{names_fault}
use Rattle.task_sets.specs.Roots.{roots_in}
use Rattle.task_sets.proofs.roots.read_module_dict.Goals as goal

pub returns-in_err-all : goal.returns-in_err-all
unfolding roots_in
returns-in_err-all g c =
    let p = err_from_is_err_and c.from_residual.result c.from_residual.ensures.1 in
    rw p.1 (reads_halt 1310720 p.0 _ c.in_err-all.ensures (ap names_fault p.2) (omega arith))

pub returns-in_err-scheduled : goal.returns-in_err-scheduled
unfolding roots_in
returns-in_err-scheduled g c =
    let p = err_from_is_err_and c.from_residual-in_err-scheduled.result c.from_residual-in_err-scheduled.ensures.1 in
    rw p.1 (reads_next 1310720 _ c.in_ok-all.ensures (reads_halt 1048576 p.0 _ c.in_err-scheduled.ensures (ap
    names_fault p.2) (omega arith)) (omega arith))

pub returns-in_err-eager : goal.returns-in_err-eager
unfolding roots_in
returns-in_err-eager g c =
    let p = err_from_is_err_and c.from_residual-in_err-eager.result c.from_residual-in_err-eager.ensures.1 in
    rw p.1 (reads_next 1310720 _ c.in_ok-all.ensures (reads_next 1048576 _ c.in_ok-scheduled.ensures (reads_halt
    786432 p.0 _ c.in_err-eager.ensures (ap names_fault p.2) (omega arith)) (omega arith)) (omega arith))

pub returns-in_err-current : goal.returns-in_err-current
unfolding roots_in
returns-in_err-current g c =
    let p = err_from_is_err_and c.from_residual-in_err-current.result c.from_residual-in_err-current.ensures.1 in
    rw p.1 (reads_next 1310720 _ c.in_ok-all.ensures (reads_next 1048576 _ c.in_ok-scheduled.ensures (reads_next
    786432 _ c.in_ok-eager.ensures (reads_halt 524288 p.0 _ c.in_err-current.ensures (ap names_fault p.2)
    (omega arith)) (omega arith)) (omega arith)) (omega arith))

pub returns-in_err-task : goal.returns-in_err-task
unfolding roots_in
returns-in_err-task g c =
    let p = err_from_is_err_and c.from_residual-in_err-task.result c.from_residual-in_err-task.ensures.1 in
    rw p.1 (reads_next 1310720 _ c.in_ok-all.ensures (reads_next 1048576 _ c.in_ok-scheduled.ensures (reads_next
    786432 _ c.in_ok-eager.ensures (reads_next 524288 _ c.in_ok-current.ensures (reads_halt 262144 p.0 _
    c.in_err-task.ensures (ap names_fault p.2) (omega arith)) (omega arith)) (omega arith)) (omega arith))
    (omega arith))

pub returns : goal.returns
unfolding roots_in
returns g c = (reads_next 1310720 _ c.in_ok-all.ensures (reads_next 1048576 _ c.in_ok-scheduled.ensures (reads_next
    786432 _ c.in_ok-eager.ensures (reads_next 524288 _ c.in_ok-current.ensures (reads_next 262144 _
    c.in_ok-task.ensures (reads_end 0 refl) (omega arith)) (omega arith)) (omega arith)) (omega arith)) (omega arith))
