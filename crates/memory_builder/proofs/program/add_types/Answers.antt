use Rattle.std.specs.Prelude.{codes}
use Rattle.std.proofs.Common.{◌^◌}
use Rattle.memory_builder.specs.Laid.{laid_type, three_types}
use Rattle.memory_builder.proofs.Adding.{three_added}
use Rattle.memory_builder.proofs.program.add_types.Goals as goal

pub returns : goal.returns
unfolding three_types
returns c =
    let l = c.args.layout.now in
    three_added c.add_type-3.result c.add_type-3.new.out.items c.args.out.now.items c.add_type.new.out.items
    c.add_type-2.new.out.items
    (laid_type l c.args.types.integer (2 ^ 24) (codes "int")) (laid_type l c.args.types.text (2 ^ 28) (codes "str"))
    (laid_type l c.args.types.list (2 ^ 25) (codes "list"))
    c.in_ok-add_type.ensures c.in_ok-add_type-2.ensures c.add_type-3.ensures
