use Rattle.std.proofs.Common.{arith}
use Rattle.py_fields.specs.Places.{tuple_places}
use Rattle.memory_builder.proofs.frames.add_tuple.Goals as goal

pub add_object-requires-clause-inside : goal.add_object-requires-clause-inside
unfolding tuple_places
add_object-requires-clause-inside c =
    let len = c.tuple_len.ensures.value in (
      omega (arith, len, c.requires.sound.objects.tuple.fields.group.inside.0),
      (omega (arith, len, c.requires.names), tt),
    )
