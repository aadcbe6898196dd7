use Rattle.std.proofs.Common.{arith}
use Rattle.process_memory.proofs.Reading.{reading_none, word_outside}
use Rattle.process_memory.proofs.readers.word_wide.Goals as goal

pub returns-clause-answer : goal.returns-clause-answer
returns-clause-answer g c = reading_none 1 _ _ (λ m. word_outside m _ (omega arith))
