use Rattle.std.proofs.Common.{arith, refl}
use Rattle.process_memory.proofs.Reading.{reading_gives}
use Rattle.py_exceptions.specs.Rules.{import_at}
use Rattle.py_exceptions.proofs.rule.read_import.Goals as goal

pub returns : goal.returns
unfolding import_at
returns g c = reading_gives 6 _ c.in_ok-text.ensures (omega arith) (λ m h. rw h refl)
