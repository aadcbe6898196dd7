-- What is left of a list, as a loop goes through it.
use Rattle.std.proofs.Common.{◌≡◌, ℕ, ◌+◌, ◌<◌, List, [], ◌∷◌, ◌++◌, length, drop, get_or, map, sym, ap, ◌∙◌}
use Rattle.std.proofs.Common.{append_assoc, drop-cons, add-one, suc}
use Rattle.std.proofs.lemmas.List.{map-append}

-- one element is taken
next : {T : Type 0} (xs : List T) (i : ℕ) (x d : T) → i < length xs → x ≡ get_or xs i d → drop i xs ≡ x ∷ drop (i + 1) xs
next xs i x d lt is =
    drop-cons xs i d lt ∙ ap (λ y. y ∷ drop (suc i) xs) (sym is) ∙ ap (λ j. x ∷ drop j xs) (sym (add-one i))

-- a value that is seen as that of an element is added, and those of the rest follow
pub value_more : {X T D : Type 0} (view : X → D) (tree : T → D) (before after : List X) (value : X) (total : List D)
    (xs : List T) (i : ℕ) (x d : T) → i < length xs → x ≡ get_or xs i d
    → map view before ++ map tree (drop i xs) ≡ total → after ≡ before ++ value ∷ [] → view value ≡ tree x
    → map view after ++ map tree (drop (i + 1) xs) ≡ total
value_more view tree before after value total xs i x d lt at inv pushed is =
    let rest = map tree (drop (i + 1) xs) in
    ap (λ vs. map view vs ++ rest) pushed ∙ ap (λ ds. ds ++ rest) (map-append view before (value ∷ []))
    ∙ append_assoc (map view before) (view value ∷ []) rest
    ∙ ap (λ y. map view before ++ y ∷ rest) is
    ∙ ap (λ ys. map view before ++ map tree ys) (sym (next xs i x d lt at)) ∙ inv
