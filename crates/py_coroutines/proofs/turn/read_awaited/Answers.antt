use Rattle.std.proofs.Common.{arith, refl}
use Rattle.process_memory.proofs.Reading.{reads_end, reads_within}
use Rattle.py_coroutines.specs.Objects.{awaited_at}
use Rattle.py_coroutines.proofs.turn.read_awaited.Goals as goal

pub returns-in-Created : goal.returns-in-Created
unfolding awaited_at
returns-in-Created g c = rw c.in-Created.is (reads_end 3 refl)

pub returns-in-Yielding : goal.returns-in-Yielding
unfolding awaited_at
returns-in-Yielding g c = rw c.in-Yielding.is (reads_end 3 refl)

pub returns-in-Running : goal.returns-in-Running
unfolding awaited_at
returns-in-Running g c = rw c.in-Running.is (reads_end 3 refl)

pub returns-in-Finished : goal.returns-in-Finished
unfolding awaited_at
returns-in-Finished g c = rw c.in-Finished.is (reads_end 3 refl)

pub returns-in-Awaiting : goal.returns-in-Awaiting
unfolding awaited_at
returns-in-Awaiting g c = rw c.in-Awaiting.is (reads_within 3 c.read_top.ensures (omega arith))

pub returns-in-Suspended : goal.returns-in-Suspended
unfolding awaited_at
returns-in-Suspended g c = rw c.in-Suspended.is (reads_within 3 c.read_by_code.ensures (omega arith))

pub returns-in-Coded : goal.returns-in-Coded
unfolding awaited_at
returns-in-Coded g c = rw c.in-Coded.is c.read_coded.ensures
