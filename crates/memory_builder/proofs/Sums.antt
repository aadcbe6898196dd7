-- Sums that stop at the greatest u64, over mapped lists.
use Rattle.std.proofs.Common.{◌≡◌, ◌∙◌, ◌+◌, ◌-◌, ◌<◌, ◌≤◌, ◌^◌, ℕ, zero, suc, List, [], ◌∷◌, map, length, get_or, take}
use Rattle.std.proofs.Common.{refl, ap, sym, subst, arith}
use Rattle.std.specs.Prelude.{min}
use Rattle.std.specs.List.{AllByRecursion, sum_by}
use Rattle.std.proofs.lemmas.List.Sums.{sum_by_more}
use Rattle.memory_builder.specs.Sizes.{capped}
use Rattle.memory_builder.proofs.Lists.{length_map}

-- what holds of all mapped items holds of one that is read
pub item_at : {X Y : Type 0} (P : Y → Type 0) (g : X → Y) (xs : List X) (i : ℕ) (x : X) → i < length xs
    → x ≡ get_or xs i x → AllByRecursion P (map g xs) → P (g x)
item_at P g [] i x small is h = absurd (omega arith)
item_at P g (y ∷ xs) zero x small is h = subst (λ z. P (g z)) (sym is) h.0
item_at P g (y ∷ xs) (suc i) x small is h = item_at P g xs i x (omega arith) is h.1

pub read_map : {X Y : Type 0} (g : X → Y) (xs : List X) (i : ℕ) (x : X) → i < length xs → x ≡ get_or xs i x
    → get_or (map g xs) i (g x) ≡ g x
read_map g [] i x small is = absurd (omega arith)
read_map g (y ∷ xs) zero x small is = ap g (sym is)
read_map g (y ∷ xs) (suc i) x small is = read_map g xs i x (omega arith) is

pub take_all : {X : Type 0} (xs : List X) (n : ℕ) → length xs ≤ n → take n xs ≡ xs
take_all [] zero h = refl
take_all [] (suc n) h = refl
take_all (x ∷ xs) zero h = absurd (omega arith)
take_all (x ∷ xs) (suc n) h = ap (λ ys. x ∷ ys) (take_all xs n (omega arith))

added : (total one sum x next : ℕ) → total ≡ capped sum → one ≡ capped x → next ≡ sum + x
    → min (total + one) (2 ^ 64 - 1) ≡ capped next
added total one sum x next t o n = omega arith

-- one item more
pub more_capped : {X Y : Type 0} (f : Y → ℕ) (g : X → Y) (xs : List X) (i : ℕ) (x : X) (total one next : ℕ)
    → i < length xs → x ≡ get_or xs i x
    → total ≡ capped (sum_by f (take i (map g xs))) → one ≡ capped (f (g x)) → next ≡ min (total + one) (2 ^ 64 - 1)
    → next ≡ capped (sum_by f (take (i + 1) (map g xs)))
more_capped f g xs i x total one next small is so_far here is_next =
    let more = sum_by_more f (map g xs) i (g x) (omega (arith, length_map g xs))
    ∙ ap (λ y. sum_by f (take i (map g xs)) + f y) (read_map g xs i x small is) in
    is_next ∙ added total one (sum_by f (take i (map g xs))) (f (g x))
    (sum_by f (take (i + 1) (map g xs))) so_far here more

-- all of them
pub all_capped : {X Y : Type 0} (f : Y → ℕ) (g : X → Y) (xs : List X) (i total : ℕ) → length xs ≤ i
    → total ≡ capped (sum_by f (take i (map g xs)))
    → total ≡ capped (sum_by f (map g xs))
all_capped f g xs i total all h = h ∙ ap (λ ys. capped (sum_by f ys))
    (take_all (map g xs) i (omega (arith, length_map g xs)))

-- a number that fits is itself
pub fits_capped : (n : ℕ) → n < 2 ^ 64 → n ≡ capped n
fits_capped n small = omega arith
