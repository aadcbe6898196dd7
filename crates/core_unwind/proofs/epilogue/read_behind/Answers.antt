use Rattle.std.proofs.Common.{refl, sym}
use Rattle.process_memory.proofs.Reading.{reading_none}
use Rattle.core_unwind.proofs.MarkSteps.{left_none}
use Rattle.core_unwind.proofs.epilogue.read_behind.Goals as goal

pub returns-in-Add : goal.returns-in-Add
returns-in-Add g c = reading_none 1 _ _ (λ m. rw c.in-Add.is refl)

pub returns-in-None : goal.returns-in-None
returns-in-None g c = reading_none 1 _ _ (λ m. left_none m c.args.standing.now c.args.instruction c.in-Leave.is
    (sym c.in-None.ensures))
