use Rattle.std.proofs.Common.{arith}
use Rattle.process_memory.proofs.Reading.{reading_gives, reading_then}
use Rattle.py_fronts.proofs.IdleSteps.{next_lost, next_none, next_word}
use Rattle.py_builtins.proofs.Consulted.{consulting_short}
use Rattle.py_fronts.proofs.candidates.next_by.Goals as goal

pub returns-then-head-ne0 : goal.returns-then-head-ne0
returns-then-head-ne0 g c =
    reading_gives _ _ (consulting_short c.in-Ok.ensures.answer) (omega arith)
    (λ m a. next_none c.args.layout.now m c.args.place c.args.addr c.in-Ok.head a.is c.if-head-ne0.true)

pub returns : goal.returns
returns g c =
    reading_gives _ _ (reading_then _ (consulting_short c.in-Ok.ensures.answer) c.word_in.ensures
    (λ m a b. next_word c.args.layout.now m c.args.place c.args.addr c.in-Ok.head c.word_in.result a.is
    c.if-head-ne0.false b)) (omega arith) (λ m h. h)

pub returns-in-Err : goal.returns-in-Err
returns-in-Err g c =
    reading_gives _ _ (consulting_short c.in-Err.ensures.answer) (omega arith)
    (λ m a. next_lost c.args.layout.now m c.args.place c.args.addr c.in-Err.error c.nothing_read.result a c.nothing_read.ensures)
