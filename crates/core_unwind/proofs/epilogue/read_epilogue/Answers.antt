use Rattle.std.proofs.Common.{sym}
use Rattle.process_memory.proofs.Reading.{reading_none}
use Rattle.core_unwind.proofs.MarkSteps.{not_begun}
use Rattle.core_unwind.proofs.epilogue.read_epilogue.Goals as goal

pub returns-in_default : goal.returns-in_default
returns-in_default g c = reading_none 32 _ _ (λ m. not_begun c.args.machine m c.args.state.now
    (sym c.in_default.ensures))
