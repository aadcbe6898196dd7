use Rattle.std.proofs.Common.{arith}
use Rattle.process_memory.proofs.Reading.{reading_gives, reading_then}
use Rattle.py_stacks.specs.Records.{member_of}
use Rattle.py_fronts.specs.Standings.{stood_result}
use Rattle.py_fronts.proofs.Shown.{record_stands, unread_stands}
use Rattle.py_builtins.proofs.Consulted.{consulting_short}
use Rattle.py_fronts.proofs.standing.read_standing.Goals as goal

pub returns-in-Ok : goal.returns-in-Ok
returns-in-Ok g c =
    reading_gives _ _ (reading_then _ (consulting_short c.in-Ok.ensures.answer) c.read_named.ensures (λ m a b. record_stands c.args.asked c.args.layout.now m c.args.at (member_of c.read_records.new.records) (stood_result c.read_named.result) a.is b)) (omega arith) (λ m h. h)

pub returns-in-Err : goal.returns-in-Err
returns-in-Err g c =
    reading_gives _ _ (consulting_short c.in-Err.ensures.answer) (omega arith) (λ m a. unread_stands c.args.asked c.args.layout.now m c.args.at c.in-Err.error c.unread.result a.is c.unread.ensures)
