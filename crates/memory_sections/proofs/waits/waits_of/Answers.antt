use Rattle.std.proofs.Common.{refl}
use Rattle.memory_sections.proofs.waits.waits_of.Goals as goal

pub returns : goal.returns
returns c = record {
  interpreter_is = refl;
  places = c.in_ok-places.places;
  found = c.in_ok-places.ensures;
  gil = c.in_ok-gil.gil;
  lock = c.in_ok-gil.ensures;
  are = rw c.deref-own.ensures.value at c.in_ok-threads.ensures;
}
