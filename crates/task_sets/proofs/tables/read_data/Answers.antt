use Rattle.std.proofs.Common.{refl}
use Rattle.process_memory.proofs.Reading.{reads_end}
use Rattle.task_sets.specs.Tables.{data_at}
use Rattle.task_sets.proofs.tables.read_data.Goals as goal

pub returns-in-None : goal.returns-in-None
unfolding data_at
returns-in-None g c = rw c.in-None.is (reads_end 16393 refl)

pub returns-in-Some : goal.returns-in-Some
unfolding data_at
returns-in-Some g c = rw c.in-Some.is c.read_attribute.ensures
