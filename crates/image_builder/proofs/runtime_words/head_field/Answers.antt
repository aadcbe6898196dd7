use Rattle.std.proofs.Common.{arith}
use Rattle.py_fields.specs.Places.{offsets_places}
use Rattle.py_fields.specs.Sound.{IsRecord}
use Rattle.py_fields.specs.declared.layout.OffsetsAt.{OffsetsAt}
use Rattle.py_fields.proofs.Fields.{some_is}
use Rattle.image_builder.proofs.runtime_words.head_field.Goals as goal

pub returns-in_ok-layout-in-Offsets-clause-bound : goal.returns-in_ok-layout-in-Offsets-clause-bound
unfolding offsets_places
returns-in_ok-layout-in-Offsets-clause-bound c =
    let r = some_is c.args.layout.now.offsets (λ (o : OffsetsAt). IsRecord o.size (offsets_places o))
    c.in_ok-layout-in-Offsets.field-0 c.requires.groups.offsets c.in_ok-layout-in-Offsets.was in
    let inside = r.group.inside.0 in
    omega (arith, inside, r.short)
