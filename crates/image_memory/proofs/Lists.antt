-- What a test or a function finds of lists.
use Rattle.std.proofs.Common.{subst, arith, ◌≡◌, Bool, true, false, cond, List, [], ◌∷◌, ◌++◌, map, reverse, refl, sym}
use Rattle.std.proofs.Common.{ap, ◌∙◌}
use Rattle.std.specs.Prelude.{All, Option, Some, None, filter_map, find, option_map, option_and_then}
use Rattle.std.specs.List.{cons_option}
use Rattle.std.proofs.lemmas.List.{get_or-map, length-map, map-append, reverse-append}

pub filter_map-map : {A B C : Type 0} (h : B → Option C) (f : A → B) (xs : List A)
    → filter_map h (map f xs) ≡ filter_map (λ x. h (f x)) xs
filter_map-map h f [] = refl
filter_map-map h f (x ∷ xs) = ap (cons_option (h (f x))) (filter_map-map h f xs)

pub find-map : {A B : Type 0} (p : B → Bool) (f : A → B) (xs : List A) → find p (map f xs) ≡ option_map f (find (λ x. p (f x)) xs)
find-map p f [] = refl
find-map p f (x ∷ xs) =
    elim (p (f x)) as (λ b. cond b (Some (f x)) (find p (map f xs)) ≡ option_map f (cond b (Some x) (find (λ y. p (f y)) xs))) [
      | true ↦ refl
      | false ↦ find-map p f xs
    ]

reverse-map : {A B : Type 0} (f : A → B) (xs : List A) → reverse (map f xs) ≡ map f (reverse xs)
reverse-map f [] = refl
reverse-map f (x ∷ xs) =
    reverse-append (f x ∷ []) (map f xs) ∙ ap (λ ys. ys ++ f x ∷ []) (reverse-map f xs)
    ∙ sym (map-append f (reverse xs) (x ∷ [])) ∙ ap (map f) (sym (reverse-append (x ∷ []) xs))

then-map : {A B C : Type 0} (h : B → Option C) (f : A → B) (o : Option A)
    → option_and_then (λ x. h (f x)) o ≡ option_and_then h (option_map f o)
then-map h f None = refl
then-map h f (Some x) = refl

-- what is found last of some items, by a function of them
pub last-map : {A B C : Type 0} (h : B → Option C) (p : B → Bool) (f : A → B) (xs : List A)
    → option_and_then (λ x. h (f x)) (find (λ x. p (f x)) (reverse xs)) ≡ option_and_then h (find p (reverse (map f xs)))
last-map h p f xs =
    then-map h f (find (λ x. p (f x)) (reverse xs))
    ∙ ap (option_and_then h) (sym (find-map p f (reverse xs)) ∙ ap (find p) (sym (reverse-map f xs)))

-- of what a function gives of items, as of the items
pub All-unmap : {A B : Type 0} (P : B → Type 0) (f : A → B) (xs : List A) → All P (map f xs) → All (λ x. P (f x)) xs
All-unmap P f xs h = λ k d less.
    subst P (get_or-map f xs k d (f d) less) (h k (f d) (omega (arith, less, length-map xs f)))

-- functions that agree give the same lists
pub map-same : {A B : Type 0} (f g : A → B) (xs : List A) → ((x : A) → f x ≡ g x) → map f xs ≡ map g xs
map-same f g [] same = refl
map-same f g (x ∷ xs) same = ap (λ y. y ∷ map f xs) (same x) ∙ ap (λ ys. g x ∷ ys) (map-same f g xs same)

pub map_twice : {A B C : Type 0} (g : B → C) (f : A → B) (xs : List A) → map g (map f xs) ≡ map (λ x. g (f x)) xs
map_twice g f [] = refl
map_twice g f (x ∷ xs) = ap (λ ys. g (f x) ∷ ys) (map_twice g f xs)
