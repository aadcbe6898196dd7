use Rattle.std.proofs.Common.{refl}
use Rattle.process_memory.proofs.Reading.{reading_short, reads_end}
use Rattle.py_exceptions.specs.Frames.{place_at}
use Rattle.py_exceptions.proofs.entry.read_place.Goals as goal

pub returns-in-None : goal.returns-in-None
unfolding place_at
returns-in-None g c = rw c.in-None.is (reads_end 1 refl)

pub returns-in-Some : goal.returns-in-Some
unfolding place_at
returns-in-Some g c = rw c.in-Some.is (reading_short c.word_past.ensures.answer)
