use Rattle.std.proofs.Common.{refl}
use Rattle.process_memory.proofs.Reading.{reads_end}
use Rattle.py_names.specs.Search.{value_named}
use Rattle.py_names.proofs.search.value_named.Goals as goal

pub returns-in-Empty-clause-answer : goal.returns-in-Empty-clause-answer
unfolding value_named
returns-in-Empty-clause-answer g c = rw c.in-Empty.is (reads_end 2 refl)
