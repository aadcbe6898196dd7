use Rattle.std.proofs.Common.{arith}
use Rattle.py_fields.specs.Places.{bytes_places}
use Rattle.memory_builder.proofs.frames.add_table.Goals as goal

pub add_object-requires-clause-inside : goal.add_object-requires-clause-inside
unfolding bytes_places
add_object-requires-clause-inside c =
    let len = c.table_len.ensures.value in
    (omega (arith, len, c.requires.sound.objects.bytes.fields.group.inside.0), (omega (arith, len), tt))
