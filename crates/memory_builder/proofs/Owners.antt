-- The threads before the one that holds the lock.
use Rattle.std.proofs.Common.{◌≡◌, ◌∙◌, ◌≤◌, ℕ, zero, suc, List, [], ◌∷◌, length, map, take, ap, subst, sym, arith}
use Rattle.std.specs.List.{AllByRecursion, sum_by}
use Rattle.std.proofs.lemmas.List.Sums.{sum_by-take-le}
use Rattle.memory_builder.proofs.Lists.{length_map, take_map}
use Rattle.memory_builder.proofs.Sums.{take_all}

some_of : {Y : Type 0} (P : Y → Type 0) (n : ℕ) (ys : List Y) → AllByRecursion P ys → AllByRecursion P (take n ys)
some_of P zero ys h = tt
some_of P (suc n) [] h = tt
some_of P (suc n) (y ∷ ys) h = (h.0, some_of P n ys h.1)

pub all_taken : {X Y : Type 0} (P : Y → Type 0) (g : X → Y) (n : ℕ) (xs items : List X) → xs ≡ items
    → AllByRecursion P (map g items) → AllByRecursion P (map g (take n xs))
all_taken P g n xs items is h =
    subst (λ ys. AllByRecursion P ys) (take_map g n xs) (some_of P n (map g xs)
    (subst (λ ys. AllByRecursion P (map g ys)) (sym is) h))

pub sum_taken : {X Y : Type 0} (size : Y → ℕ) (g : X → Y) (n : ℕ) (xs items : List X) → xs ≡ items
    → sum_by size (map g (take n xs)) ≤ sum_by size (map g items)
sum_taken size g n xs items is =
    omega (
      arith,
      ap (sum_by size) (take_map g n xs),
      ap (λ ys. sum_by size (map g ys)) is,
      sum_by-take-le size (map g xs) n,
    )

pub taken_all : {X Y : Type 0} (g : X → Y) (n : ℕ) (xs items : List X) (i : ℕ) → xs ≡ items → length (take n xs) ≤ i
    → take i (map g (take n xs)) ≡ take n (map g items)
taken_all g n xs items i is all =
    take_all (map g (take n xs)) i (omega (arith, all, length_map g (take n xs))) ∙ sym (take_map g n xs)
    ∙ ap (λ ys. take n (map g ys)) is
