use Rattle.py_tasks.specs.Names.{class_at}
use Rattle.py_tasks.proofs.Nones.{reads_or_none}
use Rattle.py_tasks.proofs.names.read_class.Goals as goal

pub returns : goal.returns
unfolding class_at
returns g c = reads_or_none c.read_class_text.ensures c.or_none.ensures
