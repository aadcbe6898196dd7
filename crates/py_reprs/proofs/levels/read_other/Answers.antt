use Rattle.std.proofs.Common.{arith}
use Rattle.process_memory.proofs.Reading.{reads_within}
use Rattle.py_reprs.specs.Levels.{other_level_at}
use Rattle.py_reprs.proofs.levels.read_other.Goals as goal

pub returns-in-None-clause-answer : goal.returns-in-None-clause-answer
unfolding other_level_at
returns-in-None-clause-answer g c = rw c.in-None.is (reads_within _ c.read_leaf_level.ensures.answer (omega arith))

pub returns-in-Some-clause-answer : goal.returns-in-Some-clause-answer
unfolding other_level_at
returns-in-Some-clause-answer g c = rw c.in-Some.is (reads_within _ c.read_instance.ensures.answer (omega arith))
