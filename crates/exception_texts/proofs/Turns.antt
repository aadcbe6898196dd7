-- Turns, one after another.
use Rattle.std.proofs.Common.{◌≡◌, ℕ, zero, suc, ◌+◌, List, refl, sym, ap, ◌∙◌, arith}
use Rattle.thread_exceptions.specs.declared.discovery.Met.{Met}
use Rattle.exception_texts.specs.Plan.{State, step, turns}

pub none_yet : (met : List Met) (s : State) → s ≡ turns met 0 s
unfolding turns
none_yet met s = refl

next : (met : List Met) (n : ℕ) (s : State) → turns met (suc n) s ≡ step met (turns met n s)
unfolding turns
next met n s = refl

-- one turn more
pub one_more : (met : List Met) (first now new : State) (n : ℕ) → now ≡ turns met n first → new ≡ step met now
    → new ≡ turns met (n + 1) first
one_more met first now new n inv is =
    let e : n + 1 ≡ suc n = omega arith in
    is ∙ ap (λ s. step met s) inv ∙ sym (next met n first) ∙ ap (λ k. turns met k first) (sym e)
