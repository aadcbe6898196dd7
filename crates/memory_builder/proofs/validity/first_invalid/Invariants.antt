use Rattle.std.proofs.Common.{ℕ, ◌<◌, ◌≤◌}
use Rattle.memory_builder.specs.Mirror.{program_in}
use Rattle.memory_builder.specs.Validity.{IsValidAt}
use Rattle.memory_builder.proofs.validity.first_invalid.Given as goal

-- the threads so far are valid, with all of their frames
abbrev pub invariant-loop-i : goal.invariant-loop-i
invariant-loop-i l = record {
  few : l.i ≤ 4096;
  before : (thread frame : ℕ) → thread < l.i → IsValidAt l.family (program_in l.program) thread frame;
}
