use Rattle.std.proofs.Common.{ℕ, ◌<◌, map}
use Rattle.memory_builder.specs.Mirror.{frame_in}
use Rattle.memory_builder.specs.Validity.{IsValidCall}
use Rattle.memory_builder.proofs.validity.first_invalid_frame.Given as goal

-- the frames so far are valid
abbrev pub invariant-loop-i : goal.invariant-loop-i
invariant-loop-i l = (k : ℕ) → k < l.i → IsValidCall l.family (map frame_in l.frames) k
