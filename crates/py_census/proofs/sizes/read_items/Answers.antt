use Rattle.std.proofs.Common.{◌∙◌, sym, refl}
use Rattle.process_memory.proofs.Reading.{reading_none}
use Rattle.py_census.proofs.sizes.read_items.Goals as goal

pub returns : goal.returns
returns g c = reading_none _ _ _ (λ m. rw (sym c.has_count.ensures ∙ c.if-has_count.false) refl)
