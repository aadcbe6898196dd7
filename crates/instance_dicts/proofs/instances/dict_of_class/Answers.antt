use Rattle.std.proofs.Common.{sym, ◌∙◌}
use Rattle.process_memory.proofs.Reading.{reads_same}
use Rattle.instance_dicts.proofs.HeldSteps.{class_managed, class_plain}
use Rattle.instance_dicts.proofs.instances.dict_of_class.Goals as goal

pub returns-then-is_managed : goal.returns-then-is_managed
returns-then-is_managed g c =
    let is = sym c.is_managed.ensures ∙ c.if-is_managed.true in
    reads_same _ _ (λ m. class_managed c.args.fields.now m c.args.form c.args.addr c.args.class is)
    c.managed_dict.ensures

pub returns : goal.returns
returns g c =
    let is = sym c.is_managed.ensures ∙ c.if-is_managed.false in
    reads_same _ _ (λ m. class_plain c.args.fields.now m c.args.form c.args.addr c.args.class is) c.plain_dict.ensures
