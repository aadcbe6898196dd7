use Rattle.std.proofs.Common.{arith}
use Rattle.process_memory.proofs.Reading.{reads_within}
use Rattle.py_selftest.proofs.checking.check_if.Goals as goal

pub returns-then-described : goal.returns-then-described
returns-then-described g c = rw c.if-described.true c.described_check.ensures

pub returns : goal.returns
returns g c = rw c.if-described.false (reads_within 129679 c.undescribed_check.ensures (omega arith))
