use Rattle.std.proofs.Common.{refl}
use Rattle.process_memory.proofs.Reading.{reads_end}
use Rattle.py_tasks.specs.Chains.{frame_by}
use Rattle.py_tasks.proofs.Nones.{reads_frame}
use Rattle.py_tasks.proofs.chain.read_own_frame.Goals as goal

pub returns-in-None : goal.returns-in-None
unfolding frame_by
returns-in-None g c = rw c.in-None.is (reads_end 9 refl)

pub returns-in-Some : goal.returns-in-Some
unfolding frame_by
returns-in-Some g c = rw c.in-Some.is (reads_frame c.read_frame.ensures c.frame_or_none.ensures)
