use Rattle.std.proofs.Common.{rules}
use Rattle.py_fields.specs.Places.{interpreter_places, thread_places, frame_places, code_places, string_head}
use Rattle.py_fields.specs.Places.{string_places, state_bits, bytes_places, tuple_places, list_places, object_places}
use Rattle.py_fields.specs.Places.{klass_places, long_places, value_places, dict_places, keys_places}
use Rattle.py_fields.proofs.layout.Layout.sample.Goals as goal

pub returns-clause-sound : goal.returns-clause-sound
unfolding interpreter_places thread_places frame_places code_places string_head string_places state_bits bytes_places tuple_places list_places object_places klass_places long_places value_places dict_places keys_places
returns-clause-sound c = search rules
