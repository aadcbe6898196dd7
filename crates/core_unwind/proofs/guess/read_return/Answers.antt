use Rattle.process_memory.proofs.Reading.{reading_none}
use Rattle.core_unwind.proofs.guess.read_return.Goals as goal

pub returns-in-Aarch64 : goal.returns-in-Aarch64
returns-in-Aarch64 g c = reading_none 1 _ _ (λ m. rw c.in-Aarch64.is c.register_in-link.ensures)
