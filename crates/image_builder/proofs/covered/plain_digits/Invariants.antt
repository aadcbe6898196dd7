use Rattle.std.proofs.Common.{◌≡◌, length}
use Rattle.image_builder.specs.Covered.{plain_digits}
use Rattle.image_builder.proofs.covered.plain_digits.Given as goal

abbrev pub invariant-loop-rest : goal.invariant-loop-rest
invariant-loop-rest l = plain_digits l.rest ≡ plain_digits l.digits

abbrev pub decreases-loop-rest : goal.decreases-loop-rest
decreases-loop-rest l = length l.rest
