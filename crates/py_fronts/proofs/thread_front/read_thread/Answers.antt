use Rattle.std.proofs.Common.{arith}
use Rattle.process_memory.proofs.Reading.{reading_gives}
use Rattle.py_fronts.proofs.Steps.{thread_lost}
use Rattle.process_memory.proofs.Reading.{reading_short}
use Rattle.py_fronts.proofs.thread_front.read_thread.Goals as goal

pub returns-in-Err-Unreadable-clause-answer : goal.returns-in-Err-Unreadable-clause-answer
returns-in-Err-Unreadable-clause-answer g c =
    reading_gives 1 _ (reading_short c.in-Err-Unreadable.ensures.answer) (omega arith) (λ m a. thread_lost c.args.layout.now c.args.interpreter _ c.in-Err-Unreadable.field-0 c.in-Err-Unreadable.addr c.in-Err-Unreadable.len c.in-Err-Unreadable.field-0-is a.is)
