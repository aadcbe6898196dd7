use Rattle.std.proofs.Common.{ap, arith, refl}
use Rattle.std.proofs.lemmas.Result.{err_from_is_err_and}
use Rattle.process_memory.proofs.Reading.{reading_gives, reading_none}
use Rattle.thread_exceptions.specs.Exceptions.{What}
use Rattle.thread_exceptions.proofs.exception.read_by_parts.Goals as goal

pub returns-in-None : goal.returns-in-None
returns-in-None g c = rw c.in-None.is (reading_none 260 _ _ (λ m. refl))

pub returns-in_err-members-in-Some : goal.returns-in_err-members-in-Some
returns-in_err-members-in-Some g c =
    let p = err_from_is_err_and c.from_residual.result c.from_residual.ensures.1 in
    rw p.1 (reading_gives _ _ c.in_err-members-in-Some.ensures (omega arith) (λ m h. tt))

pub returns-in_ok-members-in-Some : goal.returns-in_ok-members-in-Some
returns-in_ok-members-in-Some g c = rw c.in-Some.is (reading_gives _ _ c.in_ok-members-in-Some.ensures (omega arith)
    (λ m h. ap (What.Exception c.in-Some.parts) h))
