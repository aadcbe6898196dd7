use Rattle.std.proofs.Common.{arith}
use Rattle.std.proofs.lemmas.Result.{err_from_is_err_and}
use Rattle.process_memory.proofs.Reading.{reading_gives, reading_then}
use Rattle.core_unwind.proofs.TurnSteps.{turn_found}
use Rattle.core_unwind.proofs.turn.read_turn.Goals as goal

pub returns-in_err-next : goal.returns-in_err-next
returns-in_err-next g c =
    let p = err_from_is_err_and c.from_residual-in_err-next.result c.from_residual-in_err-next.ensures.1 in
    rw p.1 (reading_gives 8480 _ (reading_then (λ m. Unit {0}) c.in_ok-cfa.ensures c.in_err-next.ensures (λ m a b. tt))
    (omega arith) (λ m h. tt))

pub returns : goal.returns
returns g c = reading_gives 8480 _ (reading_then _ c.in_ok-cfa.ensures c.in_ok-next.ensures
    (λ m p q. turn_found c.args.code_bits c.args.state.now c.args.rules.now m c.args.place c.in_ok-cfa.cfa
    c.frame_of-frame.result c.in_ok-next.next p c.frame_of-frame.ensures q)) (omega arith) (λ m h. h)
