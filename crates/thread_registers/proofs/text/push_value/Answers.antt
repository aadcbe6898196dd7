use Rattle.py_objects.proofs.Hexes.{sixteen_digits}
use Rattle.thread_registers.proofs.text.push_value.Goals as goal

pub returns : goal.returns
returns c = rw (← sixteen_digits c.args.value) c.push_padded.ensures
