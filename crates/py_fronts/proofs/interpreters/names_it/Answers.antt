use Rattle.std.proofs.Common.{arith}
use Rattle.process_memory.proofs.Reading.{reading_gives}
use Rattle.py_fronts.proofs.HeadSteps.{names_head}
use Rattle.py_fronts.proofs.interpreters.names_it.Goals as goal

pub returns : goal.returns
returns g c =
    reading_gives _ _ c.in_ok-thread.ensures.answer (omega arith) (λ m a. names_head c.args.layout.now m c.args.interpreter c.args.head c.in_ok-thread.thread c.head_where.result a c.head_where.ensures)
