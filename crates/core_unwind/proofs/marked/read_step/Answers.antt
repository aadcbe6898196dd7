use Rattle.std.proofs.Common.{arith}
use Rattle.process_memory.proofs.Reading.{reading_gives, reading_then}
use Rattle.core_unwind.proofs.MarkSteps.{step_is}
use Rattle.core_unwind.proofs.marked.read_step.Goals as goal

pub returns : goal.returns
returns g c = reading_gives 8549 _ (reading_then _ c.in_ok-tabled.ensures c.read_marked.ensures (λ m p q.
    step_is c.args.mappings.now c.args.manner.now m c.args.state.now c.in_ok-tabled.tabled c.read_marked.result p q))
    (omega arith) (λ m h. h)
