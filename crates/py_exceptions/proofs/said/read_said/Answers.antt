use Rattle.std.proofs.Common.{arith, refl}
use Rattle.std.proofs.lemmas.Result.{err_from_is_err_and}
use Rattle.process_memory.proofs.Reading.{reading_gives}
use Rattle.py_exceptions.specs.Said.{said_at}
use Rattle.py_exceptions.proofs.Tells.{reading_and}
use Rattle.py_exceptions.proofs.said.read_said.Goals as goal

pub returns-in_err-arguments : goal.returns-in_err-arguments
returns-in_err-arguments g c =
    let p = err_from_is_err_and c.from_residual-in_err-arguments.result c.from_residual-in_err-arguments.ensures.1 in
    rw p.1 (reading_gives 16643 _ (reading_and c.in_ok-rule.ensures c.in_err-arguments.ensures) (omega arith)
    (λ m h. tt))

pub returns : goal.returns
unfolding said_at
returns g c = reading_gives 16643 _ (reading_and c.in_ok-rule.ensures c.in_ok-arguments.ensures) (omega arith)
    (λ m h. rw (h.0, h.1) refl)
