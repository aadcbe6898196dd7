use Rattle.std.proofs.Common.{arith}
use Rattle.process_memory.proofs.Reading.{reading_gives, reading_then}
use Rattle.py_fields.proofs.Fields.{thread_fits}
use Rattle.py_stacks.specs.Threads.{first_frame_at}
use Rattle.py_builtins.proofs.Consulted.{consulting_short}
use Rattle.heap_search.specs.Known.{code_class_at, newest_class_at}
use Rattle.heap_search.proofs.KnownSteps.{unread_class}
use Rattle.heap_search.proofs.known.is_newest_of.Goals as goal

pub first_frame-requires : goal.first_frame-requires
first_frame-requires g c = omega (arith, (thread_fits c.requires.sound).frame, c.requires.whole)

pub returns-in-Ok : goal.returns-in-Ok
unfolding newest_class_at
returns-in-Ok g c =
    reading_gives _ _
    (reading_then _ (consulting_short c.in-Ok.ensures.answer) c.is_code_of.ensures (λ m a b. rw a.is b))
    (omega arith) (λ m h. h)

pub returns-in-Err : goal.returns-in-Err
unfolding newest_class_at
returns-in-Err g c =
    reading_gives _ _ (consulting_short c.in-Err.ensures.answer) (omega arith)
    (λ m a. unread_class (code_class_at c.args.layout.now m) c.args.class
    (first_frame_at c.args.layout.now m c.args.thread.now) c.in-Err.error c.unread.result a c.unread.ensures)
