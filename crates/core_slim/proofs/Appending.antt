-- Lists that are appended piece by piece.
use Rattle.std.proofs.Common.{◌≡◌, ℕ, ◌+◌, ◌<◌, ◌≤◌, List, ◌++◌, drop, get_or, length, ap, sym, ◌∙◌, append_assoc}
use Rattle.std.proofs.Common.{append-nil}
use Rattle.std.specs.List.{flat_map}
use Rattle.std.proofs.lemmas.List.{at_drop_more, drop_all}

-- a piece more
pub piece_more : {X : Type 0} (f : X → List ℕ) (whole text next : List ℕ) (xs : List X) (i : ℕ) (d : X) → i < length xs
    → text ++ flat_map f (drop i xs) ≡ whole → next ≡ text ++ f (get_or xs i d)
    → next ++ flat_map f (drop (i + 1) xs) ≡ whole
piece_more f whole text next xs i d lt is more =
    ap (λ t. t ++ flat_map f (drop (i + 1) xs)) more
    ∙ append_assoc text (f (get_or xs i d)) (flat_map f (drop (i + 1) xs))
    ∙ ap (λ t. text ++ t) (sym (at_drop_more (flat_map f) xs i d lt)) ∙ is

-- no piece is left
pub none_more : {X : Type 0} (f : X → List ℕ) (whole text : List ℕ) (xs : List X) (i : ℕ) → length xs ≤ i
    → text ++ flat_map f (drop i xs) ≡ whole → text ≡ whole
none_more f whole text xs i le is =
    sym (append-nil text) ∙ ap (λ ys. text ++ flat_map f ys) (sym (drop_all i xs le)) ∙ is
