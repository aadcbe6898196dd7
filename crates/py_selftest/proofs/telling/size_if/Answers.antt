use Rattle.std.proofs.Common.{refl}
use Rattle.process_memory.proofs.Reading.{reads_end}
use Rattle.py_selftest.proofs.telling.size_if.Goals as goal

pub returns-then-is : goal.returns-then-is
returns-then-is g c = rw c.if-is.true c.size_told.ensures

pub returns : goal.returns
returns g c = rw c.if-is.false (reads_end 1 refl)
