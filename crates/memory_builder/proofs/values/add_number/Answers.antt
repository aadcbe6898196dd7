use Rattle.std.proofs.Common.{arith}
use Rattle.py_fields.specs.Places.{long_places, object_places}
use Rattle.memory_builder.proofs.values.add_number.Goals as goal

pub add_object-requires-clause-inside : goal.add_object-requires-clause-inside
unfolding long_places object_places
add_object-requires-clause-inside c =
    let objects = c.requires.sound.objects in
    let len = c.number_len.ensures.value in (
      omega (arith, len, objects.long.fields.group.inside.0),
      (omega (arith, len), (omega (arith, len, objects.object.group.inside.0), tt)),
    )
