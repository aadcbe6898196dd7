use Rattle.std.proofs.Common.{◌*◌, ap, arith}
use Rattle.std.proofs.lemmas.Result.{err_from_is_err_and}
use Rattle.py_names.specs.NamesError.{names_fault}
use Rattle.task_sets.specs.Sets.{object_at}
use Rattle.task_sets.proofs.Gathering.{gathering_done, gathering_init, gathering_lost, gathering_more, gathering_stop}
use Rattle.task_sets.proofs.sets.objects_in.Goals as goal

pub loop-number-init : goal.loop-number-init
loop-number-init g c =
    rw c.new-objects.ensures.items (gathering_init (λ m. object_at c.args.places.now c.args.kind m c.args.table) 3 _
    c.args.count)

pub returns-in_err-object : goal.returns-in_err-object
returns-in_err-object g c =
    let p = err_from_is_err_and c.from_residual.result c.from_residual.ensures.1 in
    rw p.1 (gathering_stop (3 * c.args.count) p.0 c.loop-number.invariant (omega arith) c.in_err-object.ensures
    (ap names_fault p.2) (omega arith))

pub returns-in_err-add_address : goal.returns-in_err-add_address
returns-in_err-add_address g c =
    let p = err_from_is_err_and c.from_residual-in_err-add_address.result
    c.from_residual-in_err-add_address.ensures.1 in
    rw p.1 (gathering_lost (3 * c.args.count) p.0 c.loop-number.invariant c.in_ok-object.ensures (ap names_fault p.2)
    (omega arith))

pub loop-number-preserved : goal.loop-number-preserved
loop-number-preserved g c =
    rw c.in_ok-add_address.ensures (gathering_more c.in_ok-object.object c.loop-number.invariant (omega arith)
    c.in_ok-object.ensures (omega arith))

pub returns : goal.returns
returns g c = gathering_done (3 * c.args.count) c.loop-number.invariant (omega arith) (omega arith)
