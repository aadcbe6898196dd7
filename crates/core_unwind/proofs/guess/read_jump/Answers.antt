use Rattle.std.proofs.Common.{sym}
use Rattle.process_memory.proofs.Reading.{reading_none}
use Rattle.core_unwind.proofs.GuessLaws.{no_top}
use Rattle.core_unwind.proofs.guess.read_jump.Goals as goal

pub returns-in_default : goal.returns-in_default
returns-in_default g c = reading_none 1 _ _ (λ m. no_top c.args.mappings.now c.args.machine m c.args.state.now
    (sym c.in_default.ensures))
