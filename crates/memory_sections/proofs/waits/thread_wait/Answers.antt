use Rattle.std.proofs.Common.{refl}
use Rattle.memory_sections.proofs.waits.thread_wait.Goals as goal

pub returns : goal.returns
returns c = record { thread_is = refl; is = rw c.stands_at-at.ensures at c.in_ok-wait.ensures }
