use Rattle.py_selftest.specs.Checking.{check_shown}
use Rattle.py_selftest.proofs.Plain.{no_float}
use Rattle.py_selftest.proofs.tree.check_value.Goals as goal

pub returns-clause-no_float : goal.returns-clause-no_float
returns-clause-no_float c = no_float (check_shown c.args.check.now)
