use Rattle.py_waits.specs.Types.{lock_type}
use Rattle.py_waits.proofs.types.lock_type.Goals as goal

pub returns : goal.returns
unfolding lock_type
returns g c = rw (c.fields_of-fields.ensures, c.lock_size-size.ensures) at c.type_in.ensures
