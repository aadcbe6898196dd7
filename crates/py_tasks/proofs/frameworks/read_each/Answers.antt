use Rattle.std.proofs.Common.{◌*◌, ap, arith, length}
use Rattle.std.proofs.lemmas.Result.{err_from_is_err_and}
use Rattle.py_names.specs.NamesError.{names_fault}
use Rattle.py_tasks.specs.Frameworks.{frameworks_by}
use Rattle.task_sets.proofs.Gathering.{gathering_done, gathering_init, gathering_lost, gathering_more, gathering_stop}
use Rattle.py_tasks.proofs.frameworks.read_each.Goals as goal

pub loop-entry-init : goal.loop-entry-init
loop-entry-init g c =
    rw c.new-list.ensures.items (gathering_init (λ m. frameworks_by c.args.layout.now m c.args.entries.now) 2 _
    (length c.args.entries.now))

pub returns-in_err-framework : goal.returns-in_err-framework
returns-in_err-framework g c =
    let p = err_from_is_err_and c.from_residual.result c.from_residual.ensures.1 in
    rw p.1 (gathering_stop (2 * length c.args.entries.now) p.0 c.loop-entry.invariant c.loop-entry-test.true
    c.in_err-framework.ensures (ap names_fault p.2) (omega (arith, c.loop-entry-test.true)))

pub returns-in_err-add_framework : goal.returns-in_err-add_framework
returns-in_err-add_framework g c =
    let p = err_from_is_err_and c.from_residual-in_err-add_framework.result
    c.from_residual-in_err-add_framework.ensures.1 in
    rw p.1 (gathering_lost (2 * length c.args.entries.now) p.0 c.loop-entry.invariant c.in_ok-framework.ensures
    (ap names_fault p.2) (omega (arith, c.loop-entry-test.true)))

pub loop-entry-preserved : goal.loop-entry-preserved
loop-entry-preserved g c =
    rw c.in_ok-add_framework.ensures (gathering_more c.in_ok-framework.framework c.loop-entry.invariant
    c.loop-entry-test.true c.in_ok-framework.ensures (omega arith))

pub returns : goal.returns
returns g c = gathering_done (2 * length c.args.entries.now) c.loop-entry.invariant (omega arith) (omega arith)
