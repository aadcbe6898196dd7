use Rattle.std.proofs.Common.{◌≡◌, ℕ, ◌<◌, true, get_or}
use Rattle.native_pairs.specs.Kinds.{is_gap}
use Rattle.native_pairs.proofs.kind.gap_len.Given as goal

abbrev pub invariant-loop-at : goal.invariant-loop-at
invariant-loop-at l = (k : ℕ) → k < l.at → is_gap (get_or l.text k 0) ≡ true
