use Rattle.py_reprs.specs.Coroutines.{known_name_at}
use Rattle.py_reprs.proofs.Nones.{reads_or_none}
use Rattle.py_reprs.proofs.coroutines.read_known_name.Goals as goal

pub returns : goal.returns
unfolding known_name_at
returns g c = reads_or_none c.read_name_text.ensures c.or_none.ensures
