use Rattle.std.proofs.Common.{arith}
use Rattle.process_memory.proofs.Reading.{reading_none, word_outside}
use Rattle.process_memory.proofs.readers.word_past.Goals as goal

pub returns-in-None-clause-answer : goal.returns-in-None-clause-answer
returns-in-None-clause-answer g c = reading_none 1 _ _ (λ m. word_outside m _ (omega (arith, c.in-None.ensures)))
