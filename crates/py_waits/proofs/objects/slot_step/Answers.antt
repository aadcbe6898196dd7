use Rattle.std.proofs.Common.{refl}
use Rattle.process_memory.proofs.Reading.{reads_end}
use Rattle.py_waits.proofs.objects.slot_step.Goals as goal

pub returns-in-Some : goal.returns-in-Some
returns-in-Some g c = rw c.in-Some.is (reads_end 6 refl)
