use Rattle.std.proofs.Common.{refl}
use Rattle.process_memory.proofs.Reading.{reads_end}
use Rattle.py_selftest.proofs.members.member_if.Goals as goal

pub returns-then-is : goal.returns-then-is
returns-then-is g c = rw c.if-is.true c.read_member.ensures

pub returns : goal.returns
returns g c = rw c.if-is.false (reads_end 2 refl)
