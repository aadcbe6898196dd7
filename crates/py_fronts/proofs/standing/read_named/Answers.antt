use Rattle.std.proofs.Common.{arith}
use Rattle.process_memory.proofs.Reading.{reading_gives, reading_then}
use Rattle.py_stacks.specs.Records.{member_of}
use Rattle.py_fronts.specs.Standings.{stood_result}
use Rattle.py_fronts.proofs.Shown.{named_stands}
use Rattle.py_fronts.proofs.standing.read_named.Goals as goal

pub returns-in-Ok : goal.returns-in-Ok
returns-in-Ok g c =
    reading_gives _ _ (reading_then _ c.in-Ok.ensures c.read_frame.ensures (λ m a b. named_stands c.args.asked c.args.layout.now m c.args.at (member_of c.args.records.now) _ _ (stood_result c.read_frame.result) a.is b)) (omega arith) (λ m h. h)
