use Rattle.std.proofs.Common.{arith}
use Rattle.process_memory.proofs.Reading.{reading_gives}
use Rattle.py_builtins.proofs.Consulted.{fields_short}
use Rattle.repr_types.specs.Found.{place_address}
use Rattle.repr_types.proofs.Known.{known_is}
use Rattle.repr_types.proofs.found.type_named.Goals as goal

pub returns : goal.returns
returns g c =
    reading_gives _ _ (fields_short c.by_symbol.ensures) (omega arith)
    (λ m h. known_is place_address _ _ _ h c.read_place.ensures)
