use Rattle.std.proofs.Common.{arith, refl}
use Rattle.std.proofs.lemmas.Result.{err_from_is_err_and}
use Rattle.process_memory.proofs.Reading.{reading_gives}
use Rattle.py_exceptions.specs.Rules.{system_at}
use Rattle.py_exceptions.proofs.Tells.{reading_and}
use Rattle.py_exceptions.proofs.rule.read_system.Goals as goal

pub returns-in_err-text : goal.returns-in_err-text
returns-in_err-text g c =
    let p = err_from_is_err_and c.from_residual-in_err-text.result c.from_residual-in_err-text.ensures.1 in
    rw p.1 (reading_gives 24 _ (reading_and c.in_ok-errno.ensures c.in_err-text.ensures) (omega arith) (λ m h. tt))

pub returns-in_err-file : goal.returns-in_err-file
returns-in_err-file g c =
    let p = err_from_is_err_and c.from_residual-in_err-file.result c.from_residual-in_err-file.ensures.1 in
    rw p.1 (reading_gives 24 _ (reading_and c.in_ok-errno.ensures (reading_and c.in_ok-text.ensures
    c.in_err-file.ensures)) (omega arith) (λ m h. tt))

pub returns-in_err-second : goal.returns-in_err-second
returns-in_err-second g c =
    let p = err_from_is_err_and c.from_residual-in_err-second.result c.from_residual-in_err-second.ensures.1 in
    rw p.1 (reading_gives 24 _ (reading_and c.in_ok-errno.ensures (reading_and c.in_ok-text.ensures
    (reading_and c.in_ok-file.ensures c.in_err-second.ensures))) (omega arith) (λ m h. tt))

pub returns : goal.returns
unfolding system_at
returns g c = reading_gives 24 _ (reading_and c.in_ok-errno.ensures (reading_and c.in_ok-text.ensures
    (reading_and c.in_ok-file.ensures c.in_ok-second.ensures))) (omega arith)
    (λ m h. rw (h.0, h.1.0, h.1.1.0, h.1.1.1) refl)
