use Rattle.std.proofs.Common.{refl}
use Rattle.process_memory.proofs.Reading.{reads_end}
use Rattle.py_names.specs.Names.{given_name_at}
use Rattle.py_names.proofs.names.read_name.Goals as goal

pub returns-in-None-clause-answer : goal.returns-in-None-clause-answer
unfolding given_name_at
returns-in-None-clause-answer g c = rw c.in-None.is (reads_end 2 refl)
