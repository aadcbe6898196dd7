-- Lists of what stands at each number.
use Rattle.std.proofs.Common.{◌≡◌, ◌∙◌, ℕ, suc, ◌+◌, List, [], ◌∷◌, ◌++◌, map, refl, sym, ap, arith}
use Rattle.std.proofs.lemmas.List.{map-append}
use Rattle.image_builder.specs.Generated.{each}

pub each_none : {A : Type 0} (f : ℕ → A) → each f 0 ≡ []
unfolding each
each_none f = refl

each_next : {A : Type 0} (f : ℕ → A) (n : ℕ) → each f (n + 1) ≡ each f n ++ f n ∷ []
unfolding each
each_next f n = let next : n + 1 ≡ suc n = omega arith in rw next refl

pub one_more : {X Y : Type 0} (g : X → Y) (f : ℕ → Y) (n : ℕ) (old new : List X) (x : X) → new ≡ old ++ x ∷ []
    → map g old ≡ each f n → g x ≡ f n → map g new ≡ each f (n + 1)
one_more g f n old new x added so_far here =
    ap (map g) added ∙ map-append g old (x ∷ []) ∙ ap (λ ys. ys ++ g x ∷ []) so_far ∙ ap (λ y. each f n ++ y ∷ []) here
    ∙ sym (each_next f n)
