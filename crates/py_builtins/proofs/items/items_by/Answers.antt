use Rattle.std.proofs.Common.{◌∙◌, ap, arith}
use Rattle.py_fields.proofs.ObjectFields.{list_fits}
use Rattle.py_builtins.specs.Items.{count_at}
use Rattle.py_builtins.proofs.items.items_by.Goals as goal

pub u64_in-requires : goal.u64_in-requires
u64_in-requires c =
    let whole = c.requires.whole ∙ ap (λ s. (count_at c.args.layout.now s).size) c.in-List.is in
    omega (arith, (list_fits c.requires.sound).items, whole)
