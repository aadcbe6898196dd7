use Rattle.process_memory.proofs.Reading.{reading_here}
use Rattle.object_reach.proofs.Determined.{right_unique}
use Rattle.object_reach.proofs.search.reach.Goals as goal

pub returns-clause-only : goal.returns-clause-only
returns-clause-only g c answer right other = right_unique _ _ _ answer (reading_here c.search.ensures) right other
