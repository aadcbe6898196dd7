use Rattle.py_tasks.specs.Waiters.{known_state_at}
use Rattle.py_tasks.proofs.Nones.{reads_or_none}
use Rattle.py_tasks.proofs.waiter.read_known_state.Goals as goal

pub returns : goal.returns
unfolding known_state_at
returns g c = reads_or_none c.read_future.ensures c.or_none.ensures
