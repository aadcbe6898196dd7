use Rattle.std.proofs.Common.{arith}
use Rattle.process_memory.proofs.Reading.{reading_gives}
use Rattle.py_exceptions.proofs.Alone.{only_last}
use Rattle.py_exceptions.proofs.last.read_last.Goals as goal

pub returns-clause-only : goal.returns-clause-only
returns-clause-only g c = reading_gives _ _ c.tell_last.ensures (omega arith)
    (λ m h other is. only_last c.args.layout.now c.args.places.now m c.args.interpreter c.tell_last.result h other is)
