use Rattle.std.proofs.Common.{◌≡◌, length}
use Rattle.native_merge.specs.NativesShown.{holds_piece}
use Rattle.native_merge.proofs.natives_shown.holds_piece.Given as goal

abbrev pub invariant-loop-rest : goal.invariant-loop-rest
invariant-loop-rest l = holds_piece l.piece l.rest ≡ holds_piece l.piece l.text

abbrev pub decreases-loop-rest : goal.decreases-loop-rest
decreases-loop-rest l = length l.rest
