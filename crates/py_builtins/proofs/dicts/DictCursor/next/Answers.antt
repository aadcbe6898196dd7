use Rattle.process_memory.proofs.Reading.{reading_none}
use Rattle.py_builtins.proofs.dicts.DictCursor.next.Goals as goal

pub returns-then-self-clause-slot : goal.returns-then-self-clause-slot
returns-then-self-clause-slot g c = reading_none _ _ _ (λ m. tt)
