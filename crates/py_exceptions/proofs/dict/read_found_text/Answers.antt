use Rattle.std.proofs.Common.{refl}
use Rattle.process_memory.proofs.Reading.{reads_end}
use Rattle.py_builtins.proofs.Consulted.{consulting_short}
use Rattle.py_exceptions.specs.Entries.{found_text_at}
use Rattle.py_exceptions.proofs.dict.read_found_text.Goals as goal

pub returns-in-None : goal.returns-in-None
unfolding found_text_at
returns-in-None g c = rw c.in-None.is (reads_end 2 refl)

pub returns-in-Some : goal.returns-in-Some
unfolding found_text_at
returns-in-Some g c = rw c.in-Some.is (consulting_short c.read_text.ensures)
