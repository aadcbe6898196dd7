use Rattle.std.proofs.Common.{arith, refl}
use Rattle.std.specs.Prelude.{Some}
use Rattle.process_memory.proofs.Reading.{reading_gives, reading_none}
use Rattle.py_builtins.proofs.Consulted.{fields_short}
use Rattle.repr_types.proofs.Known.{known_is}
use Rattle.repr_types.proofs.found.class_named.Goals as goal

pub returns-in-None : goal.returns-in-None
returns-in-None g c = rw c.in-None.is (reading_none _ _ _ (λ m. refl))

pub returns-in-Some : goal.returns-in-Some
returns-in-Some g c =
    rw c.in-Some.is (reading_gives _ _ (fields_short c.class_of.ensures) (omega arith)
    (λ m h. known_is Some _ _ _ h c.read_class.ensures))
