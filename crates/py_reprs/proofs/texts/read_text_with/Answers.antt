use Rattle.process_memory.proofs.Reading.{reading_none}
use Rattle.std.proofs.Common.{refl}
use Rattle.py_reprs.proofs.texts.read_text_with.Goals as goal

pub returns-in-None : goal.returns-in-None
returns-in-None g c = rw c.in-None.is (reading_none _ _ _ (λ m. record { is = refl }))
