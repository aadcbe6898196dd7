use Rattle.std.proofs.Common.{ap, arith, ◌∙◌}
use Rattle.std.proofs.lemmas.Result.{err_from_is_err_and}
use Rattle.py_builtins.proofs.Consulted.{consults_fields}
use Rattle.py_builtins.specs.ObjectError.{object_fault}
use Rattle.instance_dicts.proofs.Attributing.{attributing_init, attributing_more, attributing_done, attributing_stop}
use Rattle.instance_dicts.proofs.Attributing.{attributing_lost}
use Rattle.instance_dicts.proofs.attributes.attributes_in.Goals as goal

pub loop-number-init : goal.loop-number-init
loop-number-init g c =
    rw c.new-attributes.ensures.items (attributing_init c.args.layout.now c.args.dict.now.slots _ c.args.count)

pub returns-in_err-slot : goal.returns-in_err-slot
returns-in_err-slot g c =
    let p = err_from_is_err_and c.from_residual.result c.from_residual.ensures.1 in
    rw p.1 (attributing_stop p.0 c.loop-number.invariant (omega arith)
    (consults_fields c.args.layout.now c.in_err-slot.ensures.answer) (ap object_fault p.2))

pub returns-in_err-add_attribute : goal.returns-in_err-add_attribute
returns-in_err-add_attribute g c =
    let p = err_from_is_err_and c.from_residual-in_err-add_attribute.result
    c.from_residual-in_err-add_attribute.ensures.1 in
    rw p.1 (attributing_lost p.0 c.loop-number.invariant (omega arith)
    (consults_fields c.args.layout.now c.in_ok-slot.ensures.answer)
    (ap object_fault p.2 ∙ ap object_fault c.in_err-add_attribute.ensures.memory))

pub loop-number-preserved : goal.loop-number-preserved
loop-number-preserved g c =
    rw c.in_ok-add_attribute.ensures.added (attributing_more c.in_ok-slot.slot c.loop-number.invariant (omega arith)
    (consults_fields c.args.layout.now c.in_ok-slot.ensures.answer))

pub returns : goal.returns
returns g c = attributing_done c.loop-number.invariant (omega arith)
