-- Steps from the margin, one after another.
use Rattle.std.proofs.Common.{◌≡◌, ℕ, zero, suc, ◌+◌, List, [], ◌++◌, refl, sym, ap, ◌∙◌, arith, append_assoc}
use Rattle.std.specs.Prelude.{codes}
use Rattle.std.proofs.lemmas.List.{append-nil}
use Rattle.exception_texts.specs.Frames.{steps_text}

next : (n : ℕ) → steps_text (suc n) ≡ steps_text n ++ codes "        "
unfolding steps_text
next n = refl

after : (n : ℕ) → steps_text (n + 1) ≡ steps_text n ++ codes "        "
after n = let e : n + 1 ≡ suc n = omega arith in ap steps_text e ∙ next n

pub none : (text : List ℕ) → text ≡ text ++ steps_text 0
unfolding steps_text
none text = sym (append-nil text)

-- one step more
pub one_more : (before text new : List ℕ) (n : ℕ) → text ≡ before ++ steps_text n
    → new ≡ text ++ codes "        " → new ≡ before ++ steps_text (n + 1)
one_more before text new n inv pushed = pushed ∙ ap (λ t. t ++ codes "        ") inv
    ∙ append_assoc before (steps_text n) (codes "        ") ∙ ap (λ t. before ++ t) (sym (after n))
