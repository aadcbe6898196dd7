use Rattle.py_waits.specs.Types.{rlock_type}
use Rattle.py_waits.proofs.types.rlock_type.Goals as goal

pub returns : goal.returns
unfolding rlock_type
returns g c = rw (c.fields_of-fields.ensures, c.rlock_size-size.ensures) at c.type_in.ensures
