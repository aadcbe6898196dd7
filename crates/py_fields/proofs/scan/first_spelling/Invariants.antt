use Rattle.std.proofs.Common.{◌≡◌, ℕ, None, drop, ◌<◌}
use Rattle.py_fields.specs.Fronts.{spelled}
use Rattle.py_fields.proofs.scan.first_spelling.Given as goal

abbrev pub invariant-loop-place : goal.invariant-loop-place
invariant-loop-place l = (k : ℕ) → k < l.place → spelled (drop k l.bytes) ≡ None
