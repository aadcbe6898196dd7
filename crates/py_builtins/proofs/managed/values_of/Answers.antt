use Rattle.std.proofs.Common.{sym}
use Rattle.py_builtins.proofs.DictSteps.{values_inside, values_apart}
use Rattle.py_builtins.proofs.managed.values_of.Goals as goal

pub returns-then-flags-ne0-clause-value : goal.returns-then-flags-ne0-clause-value
returns-then-flags-ne0-clause-value c = sym (values_inside c.args.heap.now c.args.addr c.args.flags c.args.values c.if-flags-ne0.true)

pub returns-else-flags-ne0-clause-value : goal.returns-else-flags-ne0-clause-value
returns-else-flags-ne0-clause-value c = sym (values_apart c.args.heap.now c.args.addr c.args.flags c.args.values c.if-flags-ne0.false)
