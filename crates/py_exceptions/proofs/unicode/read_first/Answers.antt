use Rattle.std.proofs.Common.{refl}
use Rattle.process_memory.proofs.Reading.{reading_none}
use Rattle.py_exceptions.proofs.unicode.read_first.Goals as goal

pub returns-in-Some-None : goal.returns-in-Some-None
returns-in-Some-None g c = rw (c.in-Some-None.is-0, c.in-Some-None.is-1) (reading_none 4 _ _ (λ m. refl))

pub returns-in-None-default : goal.returns-in-None-default
returns-in-None-default g c = rw c.in-None-default.is-0 (reading_none 4 _ _ (λ m. refl))
