use Rattle.std.proofs.Common.{◌∙◌, sym, ap}
use Rattle.process_memory.proofs.Reading.{reading_none}
use Rattle.gc_lists.specs.Links.{links_at}
use Rattle.gc_lists.specs.Turns.{turn_by, turn_past}
use Rattle.gc_lists.proofs.turn.read_turn.Goals as goal

pub returns-in-Some : goal.returns-in-Some
returns-in-Some g c = reading_none _ _ _
    (λ m. ap (λ o. turn_past o (turn_by (links_at c.args.mask m c.args.at) c.args.before c.args.at)) (sym c.in-Some.is ∙ c.head_end.ensures))
