use Rattle.py_objects.proofs.Hexes.{eight_digits}
use Rattle.py_objects.proofs.texts.single.Goals as goal

pub returns : goal.returns
returns c = rw (← eight_digits c.args.bits) c.padded_single.ensures
