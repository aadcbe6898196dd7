use Rattle.std.proofs.Common.{arith}
use Rattle.process_memory.proofs.Reading.{reading_gives}
use Rattle.py_exceptions.proofs.OneTelling.{only_told}
use Rattle.py_exceptions.proofs.thread.read_exceptions.Goals as goal

pub returns-clause-only : goal.returns-clause-only
returns-clause-only g c = reading_gives _ _ c.tell.ensures (omega arith)
    (λ m h other is. only_told c.args.layout.now c.args.places.now m c.args.thread c.tell.result h other is)
