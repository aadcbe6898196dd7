use Rattle.std.proofs.Common.{refl}
use Rattle.process_memory.proofs.Reading.{reading_none}
use Rattle.native_frames.proofs.thread.guess_unless.Goals as goal

pub returns-then-strict : goal.returns-then-strict
returns-then-strict g c = reading_none 2 _ _ (λ m. rw c.if-strict.true refl)
