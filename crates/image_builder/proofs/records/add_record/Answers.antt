use Rattle.std.proofs.Common.{◌∙◌, ◌++◌, ap, map, sym, append-nil, arith}
use Rattle.std.specs.List.{flat_map}
use Rattle.object_builder.specs.Objects.{bytes_of}
use Rattle.object_builder.specs.Writes.{value_of}
use Rattle.memory_builder.proofs.Lists.{length_map}
use Rattle.memory_builder.proofs.Sums.{take_all}
use Rattle.image_builder.specs.Records.{record_of}
use Rattle.image_builder.proofs.Appending.{field_more}
use Rattle.image_builder.proofs.records.add_record.Goals as goal

pub loop-field-init : goal.loop-field-init
loop-field-init c = sym (append-nil c.args.out.now.items)

pub loop-field-preserved : goal.loop-field-preserved
loop-field-preserved c =
    field_more c.args.fields.now c.loop-field.field-index _ c.args.out.now.items c.loop-field.out.items
    c.add_field.new.out.items c.loop-field-test.true c.loop-field.invariant c.in_ok-add_field.ensures

pub returns : goal.returns
unfolding record_of
returns c =
    c.loop-field.invariant ∙ ap (λ xs. c.args.out.now.items ++ flat_map bytes_of xs)
    (take_all (map value_of c.args.fields.now) c.loop-field.field-index (omega (
      arith,
      c.loop-field-test.false,
      length_map value_of c.args.fields.now,
    )))
