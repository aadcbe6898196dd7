use Rattle.std.proofs.Common.{arith, refl}
use Rattle.std.proofs.lemmas.Result.{err_from_is_err_and}
use Rattle.process_memory.proofs.Reading.{reading_gives}
use Rattle.py_exceptions.specs.Rules.{syntax_at}
use Rattle.py_exceptions.proofs.Tells.{reading_and}
use Rattle.py_exceptions.proofs.rule.read_syntax.Goals as goal

pub returns-in_err-file : goal.returns-in_err-file
returns-in_err-file g c =
    let p = err_from_is_err_and c.from_residual-in_err-file.result c.from_residual-in_err-file.ensures.1 in
    rw p.1 (reading_gives 18 _ (reading_and c.in_ok-text.ensures c.in_err-file.ensures) (omega arith) (λ m h. tt))

pub returns-in_err-line : goal.returns-in_err-line
returns-in_err-line g c =
    let p = err_from_is_err_and c.from_residual-in_err-line.result c.from_residual-in_err-line.ensures.1 in
    rw p.1 (reading_gives 18 _ (reading_and c.in_ok-text.ensures (reading_and c.in_ok-file.ensures
    c.in_err-line.ensures)) (omega arith) (λ m h. tt))

pub returns : goal.returns
unfolding syntax_at
returns g c = reading_gives 18 _ (reading_and c.in_ok-text.ensures (reading_and c.in_ok-file.ensures
    c.in_ok-line.ensures)) (omega arith) (λ m h. rw (h.0, h.1.0, h.1.1) refl)
