use Rattle.std.proofs.Common.{refl}
use Rattle.process_memory.proofs.Reading.{reading_one}
use Rattle.process_memory.proofs.readers.record_in.Goals as goal

pub returns-clause-answer : goal.returns-clause-answer
returns-clause-answer g c = reading_one (record { is = refl; short = c.requires }) c.read.ensures.law
