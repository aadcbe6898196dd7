use Rattle.py_tasks.specs.Chains.{known_kind_at}
use Rattle.py_tasks.proofs.Nones.{reads_or_none}
use Rattle.py_tasks.proofs.chain.read_known_kind.Goals as goal

pub returns : goal.returns
unfolding known_kind_at
returns g c = reads_or_none c.read_own_kind.ensures c.or_none.ensures
