use Rattle.std.proofs.Common.{arith}
use Rattle.process_memory.proofs.Reading.{reading_gives}
use Rattle.py_census.proofs.Laws.{is_only}
use Rattle.py_census.proofs.census.count_objects.Goals as goal

pub returns-clause-only : goal.returns-clause-only
returns-clause-only g c = reading_gives _ _ c.counted.ensures (omega arith)
    (λ m h other is. is_only c.counted.result h other is)
