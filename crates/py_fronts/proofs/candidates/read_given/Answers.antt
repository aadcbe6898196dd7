use Rattle.std.proofs.Common.{arith}
use Rattle.process_memory.proofs.Reading.{reading_gives, reading_then}
use Rattle.py_process.specs.Facts.{known_of}
use Rattle.py_fronts.proofs.CandidateSteps.{given_found, given_next}
use Rattle.py_fronts.proofs.candidates.read_given.Goals as goal

pub returns-in-Some : goal.returns-in-Some
returns-in-Some g c =
    reading_gives _ _ c.in_ok-head.ensures (omega arith)
    (λ m a. given_found (known_of c.args.info.now) c.args.version.now c.args.layout.now m c.in_ok-head.field-0
    c.in-Some.head c.in-Some.is a)

pub returns-in-None : goal.returns-in-None
returns-in-None g c =
    reading_gives _ _ (reading_then _ c.in_ok-head.ensures c.read_in_sections.ensures
    (λ m a b. given_next (known_of c.args.info.now) c.args.version.now c.args.layout.now m c.in_ok-head.field-0
    c.read_in_sections.result c.in-None.is a b)) (omega arith) (λ m h. h)
