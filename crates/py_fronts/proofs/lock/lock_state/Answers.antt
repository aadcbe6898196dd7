use Rattle.std.proofs.Common.{arith}
use Rattle.process_memory.proofs.Reading.{reading_gives, reading_then}
use Rattle.py_process.specs.Facts.{known_of}
use Rattle.py_fronts.proofs.LockSteps.{lock_gone, lock_held}
use Rattle.py_fronts.proofs.lock.lock_state.Goals as goal

pub returns-in-Ok-clause-answer : goal.returns-in-Ok-clause-answer
returns-in-Ok-clause-answer g c =
    reading_gives _ _ (reading_then _ c.in-Ok.ensures.answer c.state_at.ensures.answer
    (λ m a b. lock_held c.args.machine (known_of c.args.info.now) c.args.version.now c.args.layout.now m
    c.args.interpreter c.in-Ok.lock _ a.0 b)) (omega arith) (λ m h. h)

pub returns-in-Err-clause-answer : goal.returns-in-Err-clause-answer
returns-in-Err-clause-answer g c =
    reading_gives _ _ c.in-Err.ensures.answer (omega arith)
    (λ m a. lock_gone c.args.machine (known_of c.args.info.now) c.args.version.now c.args.layout.now m
    c.args.interpreter _ c.in-Err.error _ a c.gone.ensures)
