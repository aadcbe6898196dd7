use Rattle.std.proofs.Common.{ap, arith, refl}
use Rattle.process_memory.proofs.Reading.{reading_gives, reading_none}
use Rattle.py_exceptions.specs.Threads.{head_told_by}
use Rattle.py_exceptions.proofs.Tells.{reading_and, shown_as}
use Rattle.py_exceptions.proofs.thread.read_own.Goals as goal

pub returns-in-None : goal.returns-in-None
returns-in-None g c = rw c.in-None.is (reading_none 68103 _ _ (λ m. refl))

pub returns-in_ok-head-in-Some : goal.returns-in_ok-head-in-Some
returns-in_ok-head-in-Some g c = rw c.in-Some.is (reading_gives 68103 _
    (reading_and c.in_ok-head-in-Some.ensures c.read_from.ensures) (omega arith)
    (λ m h. shown_as _ _ _ _ h.1 (ap (head_told_by c.args.layout.now c.args.places.now m) h.0)))
