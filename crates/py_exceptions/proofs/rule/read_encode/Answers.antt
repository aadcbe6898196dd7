use Rattle.std.proofs.Common.{arith, refl}
use Rattle.std.proofs.lemmas.Result.{err_from_is_err_and}
use Rattle.process_memory.proofs.Reading.{reading_gives, reading_none}
use Rattle.py_exceptions.specs.Rules.{encode_at}
use Rattle.py_exceptions.proofs.Tells.{reading_and}
use Rattle.py_exceptions.proofs.rule.read_encode.Goals as goal

pub returns-in-None : goal.returns-in-None
unfolding encode_at
returns-in-None g c = rw c.in-None.is (reading_none 19 _ _ (λ m. refl))

pub returns-in_err-invalid-in-Some : goal.returns-in_err-invalid-in-Some
returns-in_err-invalid-in-Some g c =
    let p = err_from_is_err_and c.from_residual-in_err-invalid-in-Some.result
    c.from_residual-in_err-invalid-in-Some.ensures.1 in
    rw p.1 (reading_gives 19 _ (reading_and c.in_ok-encoding-in-Some.ensures c.in_err-invalid-in-Some.ensures)
    (omega arith) (λ m h. tt))

pub returns-in_ok-invalid-in-Some : goal.returns-in_ok-invalid-in-Some
unfolding encode_at
returns-in_ok-invalid-in-Some g c = rw c.in-Some.is (reading_gives 19 _
    (reading_and c.in_ok-encoding-in-Some.ensures c.in_ok-invalid-in-Some.ensures) (omega arith)
    (λ m h. rw (h.0, h.1) refl))
