use Rattle.std.proofs.Common.{refl}
use Rattle.process_memory.proofs.Reading.{reads_end}
use Rattle.task_sets.specs.Sets.{table_at}
use Rattle.task_sets.proofs.sets.read_table.Goals as goal

pub returns-in-None-clause-answer : goal.returns-in-None-clause-answer
unfolding table_at
returns-in-None-clause-answer g c = rw c.in-None.is (reads_end 2 refl)

pub returns-in-Some-clause-answer : goal.returns-in-Some-clause-answer
unfolding table_at
returns-in-Some-clause-answer g c = rw c.in-Some.is c.read_entries.ensures.answer
