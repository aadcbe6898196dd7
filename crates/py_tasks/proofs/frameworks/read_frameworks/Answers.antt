use Rattle.py_tasks.specs.Frameworks.{frameworks_at}
use Rattle.py_tasks.proofs.Nones.{reads_or_none}
use Rattle.py_tasks.proofs.frameworks.read_frameworks.Goals as goal

pub returns : goal.returns
unfolding frameworks_at
returns g c = reads_or_none c.read_all.ensures c.or_none.ensures
