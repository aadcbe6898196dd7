use Rattle.std.proofs.Common.{ap, arith}
use Rattle.std.proofs.lemmas.Result.{err_from_is_err_and}
use Rattle.process_memory.proofs.Reading.{reading_gives, reading_then}
use Rattle.py_runs.specs.Members.{IsMet}
use Rattle.py_runs.proofs.member.read_member.Goals as goal

pub returns-in_err-is_last : goal.returns-in_err-is_last
returns-in_err-is_last g c =
    let p = err_from_is_err_and c.from_residual.result c.from_residual.ensures.1 in
    rw p.1 (reading_gives 2 _ c.in_err-is_last.ensures (omega arith) (λ m a. tt))

pub returns-in_err-back : goal.returns-in_err-back
returns-in_err-back g c =
    let p = err_from_is_err_and c.from_residual-in_err-back.result c.from_residual-in_err-back.ensures.1 in
    rw p.1 (reading_gives 2 _ (reading_then (λ m. Unit {0}) c.in_ok-is_last.ensures c.in_err-back.ensures (λ m a b. tt))
    (omega arith) (λ m h. tt))

pub returns : goal.returns
returns g c = reading_gives 2 _ (reading_then (λ m. IsMet c.args.layout.now c.args.end m c.args.at _)
    c.in_ok-is_last.ensures c.in_ok-back.ensures
    (λ m a b. record { member = ap (λ x. record { address = c.args.at; is_last = x }) a; back = b })) (omega arith)
    (λ m h. h)
