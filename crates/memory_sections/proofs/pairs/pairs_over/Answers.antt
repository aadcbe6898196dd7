use Rattle.process_memory.proofs.Reading.{reading_here}
use Rattle.memory_sections.proofs.pairs.pairs_over.Goals as goal

pub returns : goal.returns
returns g c = reading_here c.pair_stacks.ensures.right
