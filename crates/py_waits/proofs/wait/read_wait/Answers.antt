use Rattle.std.proofs.Common.{arith}
use Rattle.process_memory.proofs.Reading.{reading_gives}
use Rattle.py_waits.proofs.Waiting.{wait_told}
use Rattle.py_waits.proofs.wait.read_wait.Goals as goal

pub returns-clause-right : goal.returns-clause-right
returns-clause-right g c =
    let a = c.args in
    reading_gives 2313 _ c.own_wait.ensures (omega arith)
    (λ m told. wait_told m a.places.now a.at a.layout.now a.gil a.thread c.own_wait.result told)
