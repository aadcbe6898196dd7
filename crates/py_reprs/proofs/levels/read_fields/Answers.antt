use Rattle.py_reprs.specs.Levels.{fields_level_at}
use Rattle.py_reprs.proofs.levels.read_fields.Goals as goal

pub returns-clause-answer : goal.returns-clause-answer
unfolding fields_level_at
returns-clause-answer g c = c.read_row.ensures.answer
