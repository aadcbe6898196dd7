use Rattle.std.proofs.Common.{◌∙◌, refl, sym}
use Rattle.process_memory.proofs.Reading.{reading_none}
use Rattle.paired_stacks.proofs.stack.pair_if.Goals as goal

pub returns-in-None : goal.returns-in-None
returns-in-None g c = reading_none _ _ _ (λ m. rw (sym c.walked_by.ensures ∙ c.in-None.is) refl)
