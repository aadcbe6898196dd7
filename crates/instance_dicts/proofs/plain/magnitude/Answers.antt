use Rattle.std.proofs.Common.{sym, arith}
use Rattle.instance_dicts.proofs.HeldSteps.{magnitude_small, magnitude_back}
use Rattle.instance_dicts.proofs.plain.magnitude.Goals as goal

pub returns-then-count-lt-NEGATIVE-clause-value : goal.returns-then-count-lt-NEGATIVE-clause-value
returns-then-count-lt-NEGATIVE-clause-value c = sym (magnitude_small c.args.count (omega arith))

pub returns-else-count-lt-NEGATIVE-clause-value : goal.returns-else-count-lt-NEGATIVE-clause-value
returns-else-count-lt-NEGATIVE-clause-value c = omega (arith, magnitude_back c.args.count (omega arith))
