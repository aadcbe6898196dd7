use Rattle.std.proofs.Common.{sym}
use Rattle.process_memory.proofs.Reading.{reads_end}
use Rattle.py_selftest.proofs.contents.contents_if.Goals as goal

pub returns-in-None : goal.returns-in-None
returns-in-None g c = rw c.in-None.is (reads_end 24609 (sym c.contents_none.ensures))

pub returns-in-Some : goal.returns-in-Some
returns-in-Some g c = rw c.in-Some.is c.contents_at.ensures
