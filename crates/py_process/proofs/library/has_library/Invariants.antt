use Rattle.std.proofs.Common.{◌≡◌, ℕ, false, drop, ◌<◌}
use Rattle.py_process.specs.LibraryFronts.{begins_library}
use Rattle.py_process.proofs.library.has_library.Given as goal

abbrev pub invariant-loop-place : goal.invariant-loop-place
invariant-loop-place l = (k : ℕ) → k < l.place → begins_library (drop k l.bytes) ≡ false
