use Rattle.py_fields.specs.Places.{klass_places}
use Rattle.memory_builder.proofs.program.add_type_record.Goals as goal

pub add_object-requires-clause-inside : goal.add_object-requires-clause-inside
unfolding klass_places
add_object-requires-clause-inside c = c.requires.objects.klass.group.inside
