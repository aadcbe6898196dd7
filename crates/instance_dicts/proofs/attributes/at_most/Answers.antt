use Rattle.std.proofs.Common.{sym, arith}
use Rattle.instance_dicts.proofs.HeldSteps.{at_most_all, at_most_limit}
use Rattle.instance_dicts.proofs.attributes.at_most.Goals as goal

pub returns-then-count-limit-clause-value : goal.returns-then-count-limit-clause-value
returns-then-count-limit-clause-value c = sym (at_most_all c.args.count c.args.limit (omega arith))

pub returns-else-count-limit-clause-value : goal.returns-else-count-limit-clause-value
returns-else-count-limit-clause-value c = sym (at_most_limit c.args.count c.args.limit (omega arith))
