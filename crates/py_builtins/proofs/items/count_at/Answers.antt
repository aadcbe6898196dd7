use Rattle.py_fields.proofs.ObjectFields.{list_fits, tuple_fits}
use Rattle.py_builtins.proofs.items.count_at.Goals as goal

pub returns-in-List-clause-inside : goal.returns-in-List-clause-inside
returns-in-List-clause-inside c = (list_fits c.requires.sound).count

pub returns-in-Tuple-clause-inside : goal.returns-in-Tuple-clause-inside
returns-in-Tuple-clause-inside c = (tuple_fits c.requires.sound).count
