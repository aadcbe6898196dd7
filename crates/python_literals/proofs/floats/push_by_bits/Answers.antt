use Rattle.std.proofs.Common.{arith}
use Rattle.std.proofs.lemmas.Float.{not_nan_f64_bits}
use Rattle.python_literals.proofs.FloatFacts.{bits_finite}
use Rattle.python_literals.proofs.floats.push_by_bits.Goals as goal

pub float_from_bits-bits : goal.float_from_bits-bits
float_from_bits-bits c = let small = c.if-size-lt-INFINITY.true in not_nan_f64_bits c.args.bits (omega (arith, small))

pub push_finite-requires : goal.push_finite-requires
push_finite-requires c = let small = c.if-size-lt-INFINITY.true in bits_finite c.args.bits (omega (arith, small))
