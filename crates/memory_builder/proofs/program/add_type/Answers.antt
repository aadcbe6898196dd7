use Rattle.std.proofs.Common.{◌∙◌, ◌+◌, ◌++◌, ap}
use Rattle.memory_builder.specs.Laid.{laid_type, type_name, type_writes}
use Rattle.object_builder.specs.Objects.{aligned, object}
use Rattle.memory_builder.specs.Sizes.{rounded}
use Rattle.memory_builder.proofs.Adding.{two_added}
use Rattle.memory_builder.proofs.program.add_type.Goals as goal

pub returns : goal.returns
unfolding laid_type
returns c =
    let l = c.args.layout.now in
    let place_is = c.rounded.ensures.value ∙ ap rounded c.from.ensures in
    two_added c.add_type_name.result c.add_type_name.new.out.items c.args.out.now.items c.add_type_record.new.out.items
    (aligned (object l.klass.size (type_writes l (c.args.at + rounded l.klass.size) c.args.flags)))
    (aligned (type_name c.args.name.now))
    (c.in_ok-add_type_record.ensures ∙ ap (λ n. c.args.out.now.items
    ++ aligned (object l.klass.size (type_writes l (c.args.at + n) c.args.flags))) place_is) c.add_type_name.ensures
