use Rattle.std.proofs.Common.{◌≡◌, ◌∙◌, ◌*◌, arith, sym}
use Rattle.std.specs.Prelude.{None, Some}
use Rattle.std.proofs.lemmas.Result.{err_from_is_err_and}
use Rattle.process_memory.proofs.Reading.{reading_gives, reading_none, reading_then}
use Rattle.core_unwind.specs.Epilogues.{behind, instruction_at, unwound}
use Rattle.core_unwind.proofs.MarkSteps.{unwound_end, unwound_more, unwound_none, unwound_returns, unwound_stuck}
use Rattle.core_unwind.proofs.ReadSteps.{result_is}
use Rattle.core_unwind.proofs.epilogue.+read_unwound.Goals as goal

pub returns-then-most-eq0 : goal.returns-then-most-eq0
returns-then-most-eq0 g t c = reading_none _ _ _ (λ m.
    unwound_end m c.args.standing.now c.args.most c.if-most-eq0.true)

pub returns-in_default : goal.returns-in_default
returns-in_default g t c = reading_gives (2 * c.args.most) _ c.in_ok-found.ensures (omega (arith, c.if-most-eq0.false))
    (λ m h. unwound_none m c.args.standing.now c.args.most c.if-most-eq0.false (sym h ∙ c.in_default.is))

pub returns-in_err-next : goal.returns-in_err-next
returns-in_err-next g t c =
    let p = err_from_is_err_and c.from_residual-in_err-next.result c.from_residual-in_err-next.ensures.1 in
    rw p.1 (reading_gives (2 * c.args.most) _ (reading_then (λ m. Unit {0}) c.in_ok-found.ensures
    c.in_err-next.ensures (λ m a b. tt)) (omega (arith, c.if-most-eq0.false)) (λ m h. tt))

pub returns-in_default-next : goal.returns-in_default-next
returns-in_default-next g t c = reading_gives (2 * c.args.most) _ (reading_then
    (λ m. None ≡ unwound c.args.most m c.args.standing.now) c.in_ok-found.ensures c.in_ok-next.ensures
    (λ m p q. unwound_stuck m c.args.standing.now c.args.most c.in-Some.instruction c.if-most-eq0.false
    (sym p ∙ c.in-Some.is) (sym q ∙ c.in_default-next.is))) (omega (arith, c.if-most-eq0.false)) (λ m h. h)

pub returns-then-is_return : goal.returns-then-is_return
returns-then-is_return g t c = reading_gives (2 * c.args.most) _ (reading_then
    (λ m. Some c.in-Some-next.after ≡ unwound c.args.most m c.args.standing.now) c.in_ok-found.ensures
    c.in_ok-next.ensures (λ m p q. unwound_returns m c.args.standing.now c.args.most c.in-Some.instruction
    c.in-Some-next.after c.if-most-eq0.false (sym p ∙ c.in-Some.is) (sym q ∙ c.in-Some-next.is)
    (sym c.is_return.ensures ∙ c.if-is_return.true))) (omega (arith, c.if-most-eq0.false)) (λ m h. h)

pub returns : goal.returns
returns g t c =
    let both = reading_then (λ m. (c.in_ok-found.found ≡ instruction_at m c.args.standing.now.pc)
    × (c.in_ok-next.next ≡ behind m c.args.standing.now c.in-Some.instruction)) c.in_ok-found.ensures
    c.in_ok-next.ensures (λ m p q. (p, q)) in
    reading_gives (2 * c.args.most) _ (reading_then _ both c.read_unwound.ensures (λ m pq r.
    result_is c.read_unwound.result (unwound_more m c.args.standing.now c.args.most _ c.in-Some.instruction
    c.in-Some-next.after c.if-most-eq0.false (omega arith) (sym pq.0 ∙ c.in-Some.is) (sym pq.1 ∙ c.in-Some-next.is)
    (sym c.is_return.ensures ∙ c.if-is_return.false)) r)) (omega (arith, c.if-most-eq0.false)) (λ m h. h)
