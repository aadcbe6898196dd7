use Rattle.std.proofs.Common.{refl}
use Rattle.process_memory.proofs.Reading.{reading_none}
use Rattle.core_unwind.proofs.marked.read_guessed.Goals as goal

pub returns-then-not-manner : goal.returns-then-not-manner
returns-then-not-manner g c = reading_none 2 _ _ (λ m. rw c.if-not-manner.true refl)
