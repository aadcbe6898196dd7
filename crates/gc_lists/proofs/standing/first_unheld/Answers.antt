use Rattle.std.proofs.Common.{◌≡◌, ◌+◌, ◌∙◌, refl, sym, arith, drop, get_or}
use Rattle.std.specs.Prelude.{Some}
use Rattle.std.proofs.lemmas.List.{at_drop_more, drop_all}
use Rattle.std.proofs.lemmas.Result.{err_from_is_err_and}
use Rattle.process_memory.proofs.Reading.{reading_gives, reading_none, reading_then}
use Rattle.gc_lists.specs.Heads.{first_unheld}
use Rattle.gc_lists.specs.Links.{links_at}
use Rattle.gc_lists.proofs.Standings.{unheld_here, unheld_more, unheld_none}
use Rattle.gc_lists.proofs.standing.first_unheld.Goals as goal

pub loop-head-init : goal.loop-head-init
loop-head-init g c = reading_none _ _ _ (λ m. refl)

pub returns-in_err-held : goal.returns-in_err-held
returns-in_err-held g c =
    let p = err_from_is_err_and c.from_residual.result c.from_residual.ensures.1 in
    rw p.1 (reading_gives _ _ (reading_then (λ m. Unit {0}) c.loop-head.invariant c.in_err-held.ensures (λ m a b. tt)) (omega (arith, c.loop-head-test.true)) (λ m h. tt))

pub returns-then-not-held : goal.returns-then-not-held
returns-then-not-held g c =
    let at = c.loop-head.head-index in
    let heads = c.args.heads.now in
    reading_gives _ _ (reading_then (λ m. Some (get_or heads at 0) ≡ first_unheld (links_at c.args.mask m) heads) c.loop-head.invariant c.in_ok-held.ensures
    (λ m p q. sym (p ∙ at_drop_more (first_unheld (links_at c.args.mask m)) heads at 0 c.loop-head-test.true
    ∙ unheld_here (links_at c.args.mask m) (get_or heads at 0) (drop (at + 1) heads) (sym q ∙ c.if-not-held.true))))
    (omega (arith, c.loop-head-test.true)) (λ m h. h)

pub loop-head-preserved : goal.loop-head-preserved
loop-head-preserved g c =
    let at = c.loop-head.head-index in
    let heads = c.args.heads.now in
    reading_gives _ _ (reading_then (λ m. first_unheld (links_at c.args.mask m) heads ≡ first_unheld (links_at c.args.mask m) (drop (at + 1) heads))
    c.loop-head.invariant c.in_ok-held.ensures
    (λ m p q. p ∙ at_drop_more (first_unheld (links_at c.args.mask m)) heads at 0 c.loop-head-test.true
    ∙ unheld_more (links_at c.args.mask m) (get_or heads at 0) (drop (at + 1) heads) (sym q ∙ c.if-not-held.false)))
    (omega arith) (λ m h. h)

pub returns : goal.returns
returns g c = reading_gives _ _ c.loop-head.invariant (omega (arith, c.loop-head.auto.head-index-end))
    (λ m p. sym (p ∙ unheld_none (links_at c.args.mask m) (drop c.loop-head.head-index c.args.heads.now)
    (drop_all c.loop-head.head-index c.args.heads.now c.loop-head-test.false)))
