-- The first element that passes a test, from an index on.
use Rattle.std.proofs.Common.{◌≡◌, ℕ, ◌+◌, ◌<◌, ◌≤◌, Bool, true, false, List, drop, length, get_or, refl, ap, ◌∙◌}
use Rattle.std.proofs.Common.{add-one, drop-cons}
use Rattle.std.specs.Prelude.{Some, None, cond}
use Rattle.std.specs.List.{find}
use Rattle.std.proofs.Math.ListN.{drop_of_length-le}

at_index : {X : Type 0} (test : X → Bool) (xs : List X) (i : ℕ) (d : X) → i < length xs
    → find test (drop i xs) ≡ cond (test (get_or xs i d)) (Some (get_or xs i d)) (find test (drop (i + 1) xs))
at_index test xs i d lt = rw (add-one, drop-cons xs i d) refl

pub found_at : {X : Type 0} (test : X → Bool) (xs : List X) (i : ℕ) (d : X) → i < length xs → test (get_or xs i d) ≡ true
    → find test (drop i xs) ≡ Some (get_or xs i d)
found_at test xs i d lt passes = at_index test xs i d lt ∙ ap (λ t. cond t (Some (get_or xs i d)) (find test (drop (i + 1) xs))) passes

pub passed_at : {X : Type 0} (test : X → Bool) (xs : List X) (i : ℕ) (d : X) → i < length xs → test (get_or xs i d) ≡ false
    → find test (drop i xs) ≡ find test (drop (i + 1) xs)
passed_at test xs i d lt fails = at_index test xs i d lt ∙ ap (λ t. cond t (Some (get_or xs i d)) (find test (drop (i + 1) xs))) fails

pub none_past : {X : Type 0} (test : X → Bool) (xs : List X) (i : ℕ) → length xs ≤ i → find test (drop i xs) ≡ None
none_past test xs i le = ap (find test) (drop_of_length-le xs le)
