use Rattle.std.proofs.Common.{refl}
use Rattle.process_memory.proofs.Reading.{reading_none}
use Rattle.py_process.proofs.candidates.first_in_runtime.Goals as goal

pub returns-then-addr-eq0 : goal.returns-then-addr-eq0
returns-then-addr-eq0 g c = reading_none _ _ _ (λ m. rw c.if-addr-eq0.true refl)
