-- What stands at a place of a list of what stands at each number.
use Rattle.std.proofs.Common.{◌≡◌, ◌∙◌, ◌+◌, ◌<◌, ◌≤◌, ℕ, zero, suc, List, [], ◌∷◌, ◌++◌, length, take, refl, sym, ap}
use Rattle.std.proofs.Common.{subst, inl, inr, arith, length-append}
use Rattle.std.specs.Prelude.{Some, slice_get}
use Rattle.std.specs.List.{AllByRecursion}
use Rattle.std.proofs.lemmas.Bool.{cases_lt}
use Rattle.std.proofs.lemmas.List.{take-append-le}
use Rattle.std.proofs.Math.Seq.{take-length}
use Rattle.image_builder.specs.Generated.{each}

pub length_each : {A : Type 0} (f : ℕ → A) (n : ℕ) → length (each f n) ≡ n
unfolding each
length_each f zero = refl
length_each f (suc n) = length-append (each f n) (f n ∷ []) ∙ ap (λ k. k + 1) (length_each f n) ∙ plus_one n
  where
    plus_one : (n : ℕ) → n + 1 ≡ suc n
    plus_one n = omega arith

get_left : {A : Type 0} (xs ys : List A) (k : ℕ) → k < length xs → slice_get (xs ++ ys) k ≡ slice_get xs k
get_left [] ys k small = absurd (omega arith)
get_left (x ∷ xs) ys zero small = refl
get_left (x ∷ xs) ys (suc k) small = get_left xs ys k (omega arith)

get_seam : {A : Type 0} (xs : List A) (y : A) (k : ℕ) → k ≡ length xs → slice_get (xs ++ y ∷ []) k ≡ Some y
get_seam [] y zero is = refl
get_seam [] y (suc k) is = absurd (omega arith)
get_seam (x ∷ xs) y zero is = absurd (omega arith)
get_seam (x ∷ xs) y (suc k) is = get_seam xs y k (omega arith)

pub get_each : {A : Type 0} (f : ℕ → A) (n k : ℕ) → k < n → slice_get (each f n) k ≡ Some (f k)
unfolding each
get_each f zero k small = absurd (omega arith)
get_each f (suc n) k small =
    elim (cases_lt k n) [
      | inl before ↦ get_left (each f n) (f n ∷ []) k (omega (arith, before, length_each f n)) ∙ get_each f n k before
      | inr far ↦ (let same : n ≡ k = omega (arith, far) in
          get_seam (each f n) (f n) k (omega (arith, same, length_each f n)) ∙ ap (λ i. Some (f i)) same)
    ]

pub take_each : {A : Type 0} (f : ℕ → A) (n k : ℕ) → k ≤ n → take k (each f n) ≡ each f k
unfolding each
take_each f zero zero small = refl
take_each f zero (suc k) small = absurd (omega arith)
take_each f (suc n) k small =
    elim (cases_lt n k) [
      | inl all ↦ (let same : k ≡ suc n = omega arith in
          subst (λ i. take i (each f n ++ f n ∷ []) ≡ each f i) (sym same)
          (all_of (each f n ++ f n ∷ []) (suc n) (length_each f (suc n))))
      | inr before ↦ take-append-le k (each f n) (f n ∷ []) (omega (arith, before, length_each f n))
          ∙ take_each f n k before
    ]
  where
    all_of : {A : Type 0} (xs : List A) (i : ℕ) → length xs ≡ i → take i xs ≡ xs
    all_of xs i is = ap (λ m. take m xs) (sym is) ∙ take-length xs

all_push : {A : Type 0} (P : A → Type 0) (xs : List A) (y : A) → AllByRecursion P xs → P y
    → AllByRecursion P (xs ++ y ∷ [])
all_push P [] y h here = (here, h)
all_push P (x ∷ xs) y h here = (h.0, all_push P xs y h.1 here)

pub all_each : {A : Type 0} (P : A → Type 0) (f : ℕ → A) (n : ℕ) → ((k : ℕ) → k < n → P (f k))
    → AllByRecursion P (each f n)
unfolding each
all_each P f zero h = tt
all_each P f (suc n) h = all_push P (each f n) (f n) (all_each P f n (λ k small. h k (omega (arith, small))))
    (h n (omega arith))
