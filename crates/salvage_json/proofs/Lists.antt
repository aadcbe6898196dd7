-- Trees of a list's elements, one after another.
use Rattle.std.proofs.Common.{◌≡◌, ℕ, ◌+◌, ◌<◌, List, [], ◌∷◌, ◌++◌, length, take, get_or, map, reverse, sym, ap}
use Rattle.std.proofs.Common.{◌∙◌, append_assoc}
use Rattle.std.proofs.lemmas.List.{take_more, map-append, reverse-append}
use Rattle.std.specs.List.{push}

-- one tree more
pub one_more : {X T D : Type 0} (view : X → D) (f : T → D) (before : List D) (values new : List X) (v : X) (xs : List T) (i : ℕ) (x d : T)
    → i < length xs → x ≡ get_or xs i d → map view values ≡ before ++ map f (take i xs) → new ≡ values ++ v ∷ [] → view v ≡ f x
    → map view new ≡ before ++ map f (take (i + 1) xs)
one_more view f before values new v xs i x d lt is inv pushed same =
    ap (map view) pushed ∙ map-append view values (v ∷ []) ∙ ap (λ ds. ds ++ view v ∷ []) inv
    ∙ append_assoc before (map f (take i xs)) (view v ∷ [])
    ∙ ap (λ ds. before ++ ds) (ap (λ e. map f (take i xs) ++ e ∷ []) (same ∙ ap f is)
    ∙ sym (map-append f (take i xs) (get_or xs i d ∷ [])) ∙ ap (map f) (sym (take_more xs i d lt)))

-- the last element's first
last_first : {T D : Type 0} (f : T → D) (xs rest : List T) (x : T) → xs ≡ push rest x
    → map f (reverse xs) ≡ f x ∷ map f (reverse rest)
last_first f xs rest x is = ap (λ ys. map f (reverse ys)) is ∙ ap (map f) (reverse-append rest (x ∷ []))

-- one tree more, where the elements that are left are gone through from the last to the first
pub last_more : {X T D : Type 0} (view : X → D) (f : T → D) (all : List D) (values new : List X) (v : X) (xs rest : List T) (x : T)
    → xs ≡ push rest x → map view values ++ map f (reverse xs) ≡ all → new ≡ values ++ v ∷ [] → view v ≡ f x
    → map view new ++ map f (reverse rest) ≡ all
last_more view f all values new v xs rest x is inv pushed same =
    ap (λ vs. map view vs ++ map f (reverse rest)) pushed
    ∙ ap (λ ds. ds ++ map f (reverse rest)) (map-append view values (v ∷ []))
    ∙ append_assoc (map view values) (view v ∷ []) (map f (reverse rest))
    ∙ ap (λ d. map view values ++ d ∷ map f (reverse rest)) same
    ∙ ap (λ ds. map view values ++ ds) (sym (last_first f xs rest x is)) ∙ inv
