use Rattle.py_objects.proofs.Hexes.{sixteen_digits}
use Rattle.py_objects.proofs.texts.double.Goals as goal

pub returns : goal.returns
returns c = rw (← sixteen_digits c.args.bits) c.padded_double.ensures
