use Rattle.std.proofs.Common.{refl}
use Rattle.memory_sections.proofs.heap.interpreter_heap.Goals as goal

pub returns : goal.returns
returns c = record { interpreter_is = refl; is = c.in_ok-told.ensures }
