use Rattle.py_exceptions.specs.Owners.{owner_at}
use Rattle.py_exceptions.proofs.Tells.{reads_or_none}
use Rattle.py_exceptions.proofs.owner.read_owner.Goals as goal

pub returns : goal.returns
unfolding owner_at
returns g c = reads_or_none _ c.read_found.ensures c.or_none.ensures
