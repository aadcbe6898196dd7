use Rattle.std.proofs.Common.{ap, arith, refl}
use Rattle.std.specs.Prelude.{Ok}
use Rattle.std.proofs.lemmas.Result.{err_from_is_err_and}
use Rattle.process_memory.proofs.Reading.{reads_end, reads_halt, reads_next, reads_same}
use Rattle.py_names.specs.NamesError.{names_fault}
use Rattle.py_tasks.specs.Shown.{TasksShown}
use Rattle.py_tasks.specs.Tasks.{by_modules_at, with_modules}
use Rattle.py_tasks.proofs.Moduled.{has_modules, without_modules}
use Rattle.py_tasks.proofs.tasks.read_by_modules.Goals as goal

pub returns-then-modules-eq0 : goal.returns-then-modules-eq0
returns-then-modules-eq0 g c =
    reads_same (λ m. by_modules_at c.args.layout.now c.args.records.now m c.args.slots c.args.modules)
    (λ m. Ok TasksShown.WithoutTasks)
    (λ m. without_modules c.args.layout.now c.args.records.now m c.args.slots c.args.modules c.if-modules-eq0.true)
    (reads_end 1109557323 refl)

pub returns-in_err-roots : goal.returns-in_err-roots
returns-in_err-roots g c =
    let p = err_from_is_err_and c.from_residual.result c.from_residual.ensures.1 in
    rw p.1 (reads_same (λ m. by_modules_at c.args.layout.now c.args.records.now m c.args.slots c.args.modules)
    (λ m. with_modules c.args.layout.now c.args.records.now m c.args.slots c.args.modules)
    (λ m. has_modules c.args.layout.now c.args.records.now m c.args.slots c.args.modules c.if-modules-eq0.false)
    (reads_halt 1109557323 p.0 _ c.in_err-roots.ensures (ap names_fault p.2) (omega arith)))

pub returns : goal.returns
returns g c =
    reads_same (λ m. by_modules_at c.args.layout.now c.args.records.now m c.args.slots c.args.modules)
    (λ m. with_modules c.args.layout.now c.args.records.now m c.args.slots c.args.modules)
    (λ m. has_modules c.args.layout.now c.args.records.now m c.args.slots c.args.modules c.if-modules-eq0.false)
    (reads_next 1109557323 _ c.in_ok-roots.ensures c.read_by_roots.ensures (omega arith))
