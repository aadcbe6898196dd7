use Rattle.std.proofs.Common.{arith, refl}
use Rattle.std.specs.Prelude.{Ok}
use Rattle.std.proofs.lemmas.Result.{err_from_is_err_and}
use Rattle.process_memory.proofs.Reading.{reading_short, reads_end, reads_halt, reads_next, reads_same}
use Rattle.py_tasks.specs.Shown.{TasksShown}
use Rattle.py_tasks.specs.Tasks.{by_size, checked_at, typed_at}
use Rattle.py_tasks.proofs.Listing.{other_size, same_size}
use Rattle.py_tasks.proofs.tasks.read_checked.Goals as goal

pub returns-in_err-size : goal.returns-in_err-size
unfolding checked_at
returns-in_err-size g c =
    let p = err_from_is_err_and c.from_residual.result c.from_residual.ensures.1 in
    rw p.1 (reads_halt 1107984452 p.0 _ (reading_short c.in_err-size.ensures.answer) p.2.0 (omega arith))

pub returns-then-size-places : goal.returns-then-size-places
unfolding checked_at
returns-then-size-places g c =
    reads_next 1107984452 _ (reading_short c.in_ok-size.ensures.answer)
    (reads_same (λ m. by_size c.args.layout.now c.args.records.now m c.args.places.now c.args.root_places.now
    c.args.modules c.args.roots.now c.args.task c.in_ok-size.size)
    (λ m. typed_at c.args.layout.now c.args.records.now m c.args.places.now c.args.root_places.now c.args.modules
    c.args.roots.now c.args.task)
    (λ m. same_size c.args.layout.now c.args.records.now m c.args.places.now c.args.root_places.now
    c.args.roots.now c.args.modules c.args.task c.in_ok-size.size c.if-size-places.true)
    c.read_typed.ensures) (omega arith)

pub returns : goal.returns
unfolding checked_at
returns g c =
    reads_next {k = 0} 1107984452 _ (reading_short c.in_ok-size.ensures.answer)
    (reads_same (λ m. by_size c.args.layout.now c.args.records.now m c.args.places.now c.args.root_places.now
    c.args.modules c.args.roots.now c.args.task c.in_ok-size.size)
    (λ m. Ok (TasksShown.TasksResized c.in_ok-size.size))
    (λ m. other_size c.args.layout.now c.args.records.now m c.args.places.now c.args.root_places.now
    c.args.roots.now c.args.modules c.args.task c.in_ok-size.size c.if-size-places.false)
    (reads_end 0 refl)) (omega arith)
