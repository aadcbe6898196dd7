use Rattle.std.proofs.Common.{sym, arith}
use Rattle.py_builtins.proofs.DictSteps.{before_within, before_outside}
use Rattle.instance_dicts.proofs.plain.place_before.Goals as goal

pub returns-then-back-end : goal.returns-then-back-end
returns-then-back-end c = sym (before_within c.args.end c.args.back (omega arith))

pub returns-else-back-end : goal.returns-else-back-end
returns-else-back-end c = sym (before_outside c.args.end c.args.back (omega arith))
