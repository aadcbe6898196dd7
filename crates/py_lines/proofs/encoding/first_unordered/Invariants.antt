use Rattle.std.proofs.Common.{◌≡◌, ◌+◌, length}
use Rattle.std.specs.Prelude.{option_map}
use Rattle.py_lines.specs.Coding.{first_unordered}
use Rattle.py_lines.proofs.encoding.first_unordered.Given as goal

-- the first of those that are left, behind those that can stand, is the first of all
abbrev pub invariant-loop-range : goal.invariant-loop-range
invariant-loop-range l = record {
  count : l.index + length l.rest ≡ length l.ranges;
  same : option_map (λ k. l.index + k) (first_unordered l.family l.at l.rest) ≡ first_unordered l.family 0 l.ranges;
}

abbrev pub decreases-loop-range : goal.decreases-loop-range
decreases-loop-range l = length l.rest
