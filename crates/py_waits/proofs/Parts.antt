-- The texts of parts, one after another.
use Rattle.std.proofs.Common.{◌≡◌, ℕ, ◌+◌, ◌<◌, List, [], ◌∷◌, ◌++◌, length, take, get_or, map, sym, ap, ◌∙◌}
use Rattle.std.proofs.Common.{append_assoc}
use Rattle.std.proofs.lemmas.List.{take_more, append-nil, map-append}
use Rattle.std.proofs.lemmas.List.Folds.{concat-append}
use Rattle.std.specs.List.{concat}

more_parts : {T : Type 0} (f : T → List ℕ) (xs : List T) (i : ℕ) (d : T) → i < length xs
    → concat (map f (take (i + 1) xs)) ≡ concat (map f (take i xs)) ++ f (get_or xs i d)
more_parts f xs i d lt =
    ap (λ ys. concat (map f ys)) (take_more xs i d lt) ∙ ap concat (map-append f (take i xs) (get_or xs i d ∷ []))
    ∙ concat-append (map f (take i xs)) (f (get_or xs i d) ∷ [])
    ∙ ap (λ t. concat (map f (take i xs)) ++ t) (append-nil (f (get_or xs i d)))

-- one part more
pub push_more : {T : Type 0} (f : T → List ℕ) (before text new : List ℕ) (xs : List T) (i : ℕ) (x d : T)
    → i < length xs → x ≡ get_or xs i d → text ≡ before ++ concat (map f (take i xs))
    → new ≡ text ++ f x → new ≡ before ++ concat (map f (take (i + 1) xs))
push_more f before text new xs i x d lt is inv pushed =
    pushed ∙ ap (λ t. t ++ f x) inv ∙ append_assoc before (concat (map f (take i xs))) (f x)
    ∙ ap (λ y. before ++ (concat (map f (take i xs)) ++ f y)) is ∙ ap (λ t. before ++ t) (sym (more_parts f xs i d lt))
