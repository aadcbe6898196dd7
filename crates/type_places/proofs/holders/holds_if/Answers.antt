use Rattle.process_memory.proofs.Reading.{reads_end}
use Rattle.std.proofs.Common.{refl}
use Rattle.type_places.specs.Holders.{holds_if}
use Rattle.type_places.proofs.holders.holds_if.Goals as goal

pub returns-then-is_known : goal.returns-then-is_known
unfolding holds_if
returns-then-is_known g c = rw c.if-is_known.true c.holds.ensures

pub returns : goal.returns
unfolding holds_if
returns g c = rw c.if-is_known.false (reads_end 2 refl)
