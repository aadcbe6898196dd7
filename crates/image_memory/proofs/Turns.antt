-- Where the item of a turn of a `for` stands in the list that is gone through.
use Rattle.std.proofs.Common.{◌≡◌, ◌≢◌, ◌+◌, ◌<◌, Bool, true, cond, List, [], ◌∷◌, ◌++◌, Option, Some, length, take}
use Rattle.std.proofs.Common.{drop, map, get_or, sym, ap, ◌∙◌}
use Rattle.std.specs.Prelude.{filter}
use Rattle.std.specs.Iterator.{Yields}
use Rattle.std.proofs.lemmas.List.{take-append-drop, map-id, at_drop_more}
use Rattle.std.proofs.lemmas.List.Elements.{filter-append}
use Rattle.std.proofs.lemmas.Iterator.{YieldsList}
use Rattle.std.proofs.lemmas.Iterator.Consumers.{YieldsList-so_far, YieldsList-turn}

split_turn : {A : Type 0} (xs all : List A) (x : A) → map (λ y. y) xs ≡ take (length xs) all
    → (length xs < length all) × (x ≡ get_or all (length xs) x) → all ≡ xs ++ x ∷ drop (length xs + 1) all
split_turn xs all x so_far turn =
    let front : take (length xs) all ≡ xs = sym so_far ∙ map-id xs in
    let next : drop (length xs) all ≡ x ∷ drop (length xs + 1) all =
    at_drop_more (λ ys. ys) all (length xs) x turn.0 ∙ ap (λ y. y ∷ drop (length xs + 1) all) (sym turn.1) in
    sym (take-append-drop (length xs) all) ∙ ap (λ ys. ys ++ drop (length xs) all) front ∙ ap (λ ys. xs ++ ys) next

-- the list is the items so far, this one, and others
pub turn_splits : {S A : Type 0} {steps : S → Option A → S → Type 0} {s : S} {all : List A}
    (e : YieldsList steps (λ y. y) s all) (xs : List A) (t : S) (y : Yields steps s xs t) (r : Option A) (u : S) (x : A)
    → r ≡ Some x → steps t r u → all ≡ xs ++ x ∷ drop (length xs + 1) all
turn_splits {all = all} e xs t y r u x is step =
    split_turn xs all x (YieldsList-so_far e xs t y) (YieldsList-turn e xs t y r u x is step)

-- what passes a test, at an item that does
pub filter_at : {A : Type 0} (p : A → Bool) (xs ys : List A) (x : A) → p x ≡ true
    → filter p (xs ++ x ∷ ys) ≡ filter p xs ++ x ∷ filter p ys
filter_at p xs ys x h =
    filter-append p xs (x ∷ ys) ∙ ap (λ b. filter p xs ++ cond b (x ∷ filter p ys) (filter p ys)) h

pub more_than_none : {A : Type 0} (xs ys : List A) (x : A) → xs ++ x ∷ ys ≢ []
more_than_none [] ys x h = absurd (cc)
more_than_none (y ∷ xs) ys x h = absurd (cc)
