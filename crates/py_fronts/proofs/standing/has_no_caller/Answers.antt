use Rattle.std.proofs.Common.{arith}
use Rattle.process_memory.proofs.Reading.{reading_gives, reading_none, reading_then}
use Rattle.py_stacks.specs.Records.{member_of}
use Rattle.py_fronts.proofs.Shown.{caller_lost, caller_there, no_caller}
use Rattle.py_builtins.proofs.Consulted.{consulting_short}
use Rattle.py_fronts.proofs.standing.has_no_caller.Goals as goal

pub returns-then-back-eq0 : goal.returns-then-back-eq0
returns-then-back-eq0 g c = reading_none _ _ _ (λ m. no_caller c.args.layout.now m c.args.back c.if-back-eq0.true)

pub returns-in-Ok : goal.returns-in-Ok
returns-in-Ok g c =
    reading_gives 6 _ (reading_then _ (consulting_short c.in-Ok.ensures.answer) c.shows_none.ensures (λ m a b. caller_there c.args.layout.now m c.args.back (member_of c.read_records.new.records) c.shows_none.result c.if-back-eq0.false a.is b)) (omega arith) (λ m h. h)

pub returns-in-Err : goal.returns-in-Err
returns-in-Err g c =
    reading_gives 6 _ (consulting_short c.in-Err.ensures.answer) (omega arith) (λ m a. caller_lost c.args.layout.now m c.args.back c.in-Err.error c.without_records.result c.if-back-eq0.false a.is c.without_records.ensures)
