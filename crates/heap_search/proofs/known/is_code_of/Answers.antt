use Rattle.std.proofs.Common.{arith}
use Rattle.process_memory.proofs.Reading.{reading_gives, reading_then}
use Rattle.py_stacks.specs.Frames.{records_at}
use Rattle.py_builtins.proofs.Consulted.{consulting_short}
use Rattle.heap_search.specs.Known.{class_of_code}
use Rattle.heap_search.proofs.KnownSteps.{unread_class}
use Rattle.heap_search.proofs.known.is_code_of.Goals as goal

pub returns-in-Ok : goal.returns-in-Ok
returns-in-Ok g c =
    reading_gives _ _
    (reading_then _ (consulting_short c.in-Ok.ensures.answer) c.is_of.ensures (λ m a b. rw a.is b))
    (omega arith) (λ m h. h)

pub returns-in-Err : goal.returns-in-Err
returns-in-Err g c =
    reading_gives _ _ (consulting_short c.in-Err.ensures.answer) (omega arith)
    (λ m a. unread_class (class_of_code c.args.layout.now m) c.args.class
    (records_at c.args.layout.now m c.args.frame) c.in-Err.error c.unread.result a c.unread.ensures)
