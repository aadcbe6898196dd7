-- The addresses that a thread raises and handles.
use Rattle.std.proofs.Common.{◌≡◌, ℕ, ◌+◌, ◌<◌, ◌≤◌, List, [], ◌∷◌, ◌++◌, length, map, take, get_or, refl, sym, ap, ◌∙◌}
use Rattle.std.proofs.lemmas.Grind.{take_at_read}
use Rattle.std.proofs.lemmas.List.{map-append, take_all}

pub roots_more : {A : Type 0} (f : A → ℕ) (xs : List A) (i : ℕ) (a d : A) (head : ℕ) (roots more : List ℕ)
    → i < length xs → a ≡ get_or xs i d
    → more ≡ roots ++ f a ∷ [] → roots ≡ head ∷ map f (take i xs) → more ≡ head ∷ map f (take (i + 1) xs)
roots_more f xs i a d head roots more lt at pushed h =
    pushed ∙ ap (λ t. t ++ f a ∷ []) h ∙ ap (λ y. head ∷ (map f (take i xs) ++ f y ∷ [])) at
    ∙ ap (λ t. head ∷ t) (sym (map-append f (take i xs) (get_or xs i d ∷ []))
    ∙ ap (map f) (sym (take_at_read xs i d lt).1))

map_twice : {A B : Type 0} (f : B → ℕ) (g : A → B) (xs : List A) → map (λ x. f (g x)) xs ≡ map f (map g xs)
map_twice f g [] = refl
map_twice f g (x ∷ xs) = ap (λ t. f (g x) ∷ t) (map_twice f g xs)

pub roots_done : {A B : Type 0} (f : B → ℕ) (g : A → B) (xs : List A) (i head : ℕ) (roots : List ℕ) → length xs ≤ i
    → roots ≡ head ∷ map (λ x. f (g x)) (take i xs) → roots ≡ head ∷ map f (map g xs)
roots_done f g xs i head roots all h = h ∙ ap (λ t. head ∷ t) (ap (map (λ x. f (g x))) (take_all i xs all)
    ∙ map_twice f g xs)
