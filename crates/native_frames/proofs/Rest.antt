-- What is left of a list, as a loop goes through it.
use Rattle.std.proofs.Common.{◌≡◌, ℕ, ◌+◌, ◌<◌, List, [], ◌∷◌, ◌++◌, length, drop, get_or, map, sym, ap, ◌∙◌}
use Rattle.std.proofs.Common.{append_assoc, drop-cons, add-one, suc}
use Rattle.std.proofs.lemmas.List.{map-append}

-- one element is taken
pub next : {T : Type 0} (xs : List T) (i : ℕ) (x d : T) → i < length xs → x ≡ get_or xs i d
    → drop i xs ≡ x ∷ drop (i + 1) xs
next xs i x d lt is =
    drop-cons xs i d lt ∙ ap (λ y. y ∷ drop (suc i) xs) (sym is) ∙ ap (λ j. x ∷ drop j xs) (sym (add-one i))

-- a part is added to a text, and the rest of the parts follows
pub part_more : {T : Type 0} (F : List T → List ℕ) (part : List ℕ) (before after total : List ℕ) (xs : List T) (i : ℕ)
    → F (drop i xs) ≡ part ++ F (drop (i + 1) xs) → before ++ F (drop i xs) ≡ total → after ≡ before ++ part
    → after ++ F (drop (i + 1) xs) ≡ total
part_more F part before after total xs i step inv pushed =
    ap (λ t. t ++ F (drop (i + 1) xs)) pushed ∙ append_assoc before part (F (drop (i + 1) xs))
    ∙ ap (λ t. before ++ t) (sym step) ∙ inv

-- the same of a list of values that are seen as others
pub value_more : {X D : Type 0} (view : X → D) (before after : List X) (part rest whole total : List D)
    → whole ≡ part ++ rest → map view before ++ whole ≡ total → map view after ≡ map view before ++ part
    → map view after ++ rest ≡ total
value_more view before after part rest whole total step inv pushed =
    ap (λ t. t ++ rest) pushed ∙ append_assoc (map view before) part rest
    ∙ ap (λ t. map view before ++ t) (sym step) ∙ inv

pub pushed_one : {X D : Type 0} (view : X → D) (before after : List X) (x : X) (d : D) → after ≡ before ++ x ∷ []
    → view x ≡ d → map view after ≡ map view before ++ d ∷ []
pushed_one view before after x d is same =
    ap (map view) is ∙ map-append view before (x ∷ []) ∙ ap (λ y. map view before ++ y ∷ []) same
