use Rattle.std.proofs.Common.{arith}
use Rattle.process_memory.proofs.Reading.{reading_gives}
use Rattle.py_reprs.proofs.Attributing.{known_is}
use Rattle.py_reprs.proofs.attributes.read_attributes.Goals as goal

pub returns : goal.returns
returns g c =
    reading_gives _ _ c.find_attributes.ensures (omega arith) (λ m h. known_is _ _ _ h c.found_or_none.ensures)
