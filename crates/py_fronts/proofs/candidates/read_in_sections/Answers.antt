use Rattle.std.proofs.Common.{arith}
use Rattle.process_memory.proofs.Reading.{reading_gives, reading_then}
use Rattle.py_process.specs.Facts.{known_of}
use Rattle.py_fronts.proofs.CandidateSteps.{sections_next}
use Rattle.py_fronts.proofs.candidates.read_in_sections.Goals as goal

pub returns-in-None : goal.returns-in-None
returns-in-None g c =
    reading_gives _ _ (reading_then _ c.in_ok-head.ensures c.read_head_from-in-None.ensures
    (λ m a b. sections_next (known_of c.args.info.now) c.args.version.now c.args.layout.now m
    c.runtime_in-program.result c.runtime_in-library.result c.in_ok-head.field-0 c.read_head_from-in-None.result
    c.runtime_in-program.ensures c.runtime_in-library.ensures c.in-None.is a b)) (omega arith) (λ m h. h)
