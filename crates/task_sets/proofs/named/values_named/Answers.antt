use Rattle.std.proofs.Common.{◌*◌, ap, arith, length}
use Rattle.std.proofs.lemmas.Result.{err_from_is_err_and}
use Rattle.py_builtins.proofs.Consulted.{consulting_short}
use Rattle.py_names.specs.NamesError.{names_fault}
use Rattle.task_sets.specs.Named.{named_by}
use Rattle.task_sets.proofs.Gathering.{gathering_done, gathering_init, gathering_lost, gathering_more, gathering_stop}
use Rattle.task_sets.proofs.named.values_named.Goals as goal

pub loop-attribute-init : goal.loop-attribute-init
loop-attribute-init g c =
    rw c.new-values.ensures.items (gathering_init (λ m. named_by c.args.layout.now m c.args.name.now
    c.args.attributes.now) 2 _
    (length c.args.attributes.now))

pub returns-in_err-value : goal.returns-in_err-value
returns-in_err-value g c =
    let p = err_from_is_err_and c.from_residual.result c.from_residual.ensures.1 in
    rw p.1 (gathering_stop (2 * length c.args.attributes.now) p.0 c.loop-attribute.invariant
    c.loop-attribute-test.true (consulting_short c.in_err-value.ensures)
    (ap names_fault p.2) (omega (arith, c.loop-attribute-test.true)))

pub returns-in_err-add_address : goal.returns-in_err-add_address
returns-in_err-add_address g c =
    let p = err_from_is_err_and c.from_residual-in_err-add_address.result
    c.from_residual-in_err-add_address.ensures.1 in
    rw p.1 (gathering_lost (2 * length c.args.attributes.now) p.0 c.loop-attribute.invariant (consulting_short
    c.in_ok-value.ensures) (ap names_fault p.2)
    (omega (arith, c.loop-attribute-test.true)))

pub loop-attribute-preserved : goal.loop-attribute-preserved
loop-attribute-preserved g c =
    rw c.in_ok-add_address.ensures (gathering_more c.in_ok-value.value c.loop-attribute.invariant
    c.loop-attribute-test.true
    (consulting_short c.in_ok-value.ensures) (omega arith))

pub returns : goal.returns
returns g c = gathering_done (2 * length c.args.attributes.now) c.loop-attribute.invariant (omega arith) (omega arith)
