use Rattle.std.proofs.Common.{arith}
use Rattle.process_memory.proofs.Reading.{reading_gives}
use Rattle.thread_exceptions.proofs.OneThread.{only_thread}
use Rattle.thread_exceptions.proofs.thread.read_thread.Goals as goal

pub returns-clause-only : goal.returns-clause-only
returns-clause-only g c = reading_gives _ _ c.tell.ensures (omega arith)
    (λ m h other is. only_thread c.args.places.now m c.args.thread c.tell.result h other is)
