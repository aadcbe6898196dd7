use Rattle.std.proofs.Common.{◌↔◌, drop}
use Rattle.py_fields.specs.Places.{AreApart}
use Rattle.py_records.proofs.places.are_apart.Given as goal

abbrev pub invariant-loop-i : goal.invariant-loop-i
invariant-loop-i l = AreApart l.places ↔ AreApart (drop l.i l.places)
