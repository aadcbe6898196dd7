use Rattle.std.proofs.Common.{sym}
use Rattle.process_memory.proofs.Reading.{reads_end}
use Rattle.py_reprs.proofs.Views.{tree-Coroutine}
use Rattle.py_reprs.specs.Coroutines.{coroutine_at}
use Rattle.py_reprs.proofs.coroutines.read_coroutine.Goals as goal

pub returns-in-None : goal.returns-in-None
unfolding coroutine_at
returns-in-None g c = rw c.in-None.is (reads_end 5 (sym (tree-Coroutine _ _ _ _)))

pub returns-in-Some : goal.returns-in-Some
unfolding coroutine_at
returns-in-Some g c = rw c.in-Some.is c.read_by_rule.ensures
