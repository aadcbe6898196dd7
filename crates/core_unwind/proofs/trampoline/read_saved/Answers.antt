use Rattle.std.proofs.Common.{sym}
use Rattle.process_memory.proofs.Reading.{reading_none}
use Rattle.core_unwind.proofs.MarkSteps.{saved_none}
use Rattle.core_unwind.proofs.trampoline.read_saved.Goals as goal

pub returns-in-None : goal.returns-in-None
returns-in-None g c = reading_none 1 _ _ (λ m. saved_none c.args.machine m c.args.top c.args.register
    (sym c.in-None.ensures))
