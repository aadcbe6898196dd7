use Rattle.std.proofs.Common.{refl}
use Rattle.process_memory.proofs.Reading.{reading_none}
use Rattle.native_frames.specs.Limits.{stack_most}
use Rattle.native_frames.proofs.thread.guessed_stack.Goals as goal

pub returns-in-None-clause-is : goal.returns-in-None-clause-is
returns-in-None-clause-is g c = reading_none stack_most _ _ (λ m. rw c.in-None.is refl)
