use Rattle.py_waits.specs.Types.{queue_type}
use Rattle.py_waits.proofs.types.queue_type.Goals as goal

pub returns : goal.returns
unfolding queue_type
returns g c = rw (c.fields_of-fields.ensures, c.queue_size-size.ensures) at c.type_in.ensures
