use Rattle.std.proofs.Common.{refl, arith}
use Rattle.process_memory.proofs.Reading.{reads_end, reads_within}
use Rattle.py_selftest.proofs.telling.entry_in.Goals as goal

pub returns-in-Absent : goal.returns-in-Absent
returns-in-Absent g c = rw c.in-Absent.is (reads_end 2 refl)

pub returns-in-At : goal.returns-in-At
returns-in-At g c = rw c.in-At.is (reads_within 2 c.word_told.ensures (omega arith))

pub returns-in-Behind : goal.returns-in-Behind
returns-in-Behind g c = rw c.in-Behind.is c.words_apart.ensures
