use Rattle.py_builtins.proofs.Consulted.{consulting_short}
use Rattle.py_builtins.proofs.entries.DictIterator.from.Goals as goal

pub returns-clause-start : goal.returns-clause-start
returns-clause-start g c = record { answer = consulting_short c.in_ok-cursor.ensures.answer; start = c.in_ok-cursor.ensures.start }
