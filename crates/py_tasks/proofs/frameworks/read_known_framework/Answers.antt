use Rattle.py_tasks.specs.Frameworks.{known_framework_at}
use Rattle.py_tasks.proofs.Nones.{reads_or_none}
use Rattle.py_tasks.proofs.frameworks.read_known_framework.Goals as goal

pub returns : goal.returns
unfolding known_framework_at
returns g c = reads_or_none c.read_framework.ensures c.or_none.ensures
