-- Classes in order: most bytes first, then by address.
use Rattle.std.proofs.Common.{◌≡◌, ℕ, zero, suc, ◌+◌, ◌-◌, ◌<◌, ◌≤◌, ◌^◌, ◌⊎◌, Bool, false, List, length}
use Rattle.std.proofs.Common.{◌∙◌}
use Rattle.std.proofs.Common.{arith, subst, inl, inr, get_or, nat_eq, Result}
use Rattle.std.specs.Prelude.{Ok, Err, OnOk}
use Rattle.std.specs.List.{All, AllPairs, IsDistinct}
use Rattle.std.specs.List.Sorted.{IsPermutation, IsSortedByKey, IsStableByKey}
use Rattle.std.specs.Ordering.{is_lt, nat_cmp}
use Rattle.std.proofs.lemmas.Bool.{cases_lt}
use Rattle.std.proofs.lemmas.List.Elements.{All-get_or}
use Rattle.std.proofs.lemmas.List.Sorted.{All-permutation, ties_still_rise}
use Rattle.std.proofs.lemmas.Map.Keys.{IsDistinct-IsPermutation, IsDistinct-from_apart, apart_from_distinct}
use Rattle.std.proofs.lemmas.Map.Keys.{ge_from_not_lt}
use Rattle.py_census.specs.declared.census.CountedClass.{CountedClass}
use Rattle.py_census.specs.Censuses.{Precedes}

pub precedes_once : (x y : CountedClass) → Precedes x y → Precedes y x → ⊥
precedes_once x y (inl e) (inl f) = absurd (omega (arith, e, f))
precedes_once x y (inl e) (inr f) = absurd (omega (arith, e, f.0))
precedes_once x y (inr e) (inl f) = absurd (omega (arith, e.0, f))
precedes_once x y (inr e) (inr f) = absurd (omega (arith, e.1, f.1))

precedes_on : (x y z : CountedClass) → Precedes x y → Precedes y z → Precedes x z
precedes_on x y z (inl e) (inl f) = inl (omega (arith, e, f))
precedes_on x y z (inl e) (inr f) = inl (omega (arith, e, f.0))
precedes_on x y z (inr e) (inl f) = inl (omega (arith, e.0, f))
precedes_on x y z (inr e) (inr f) = inr (e.0 ∙ f.0, omega (arith, e.1, f.1))

-- the key of the sort
abbrev pub rank : CountedClass → ℕ
rank c = (2 ^ 64 - 1) - c.bytes

abbrev address : CountedClass → ℕ
address c = c.class

abbrev same_class : CountedClass → CountedClass → Bool
same_class x y = nat_eq x.class y.class

flips : (x y : CountedClass) → same_class x y ≡ same_class y x
flips x y = grind arith

not_below : (m n : ℕ) → m < n → is_lt (nat_cmp n m) ≡ false
not_below m n lt = grind arith

unlike : (m n : ℕ) → m < n → nat_eq m n ≡ false
unlike m n lt = grind arith

differs : (m n : ℕ) → nat_eq m n ≡ false → m ≡ n → ⊥
differs m n e s = grind arith

module _ (xs ys : List CountedClass) (up : AllPairs (λ x y. x.class < y.class) xs) (small : All
    (λ c. c.bytes < 2 ^ 64) xs)
    (moved : IsPermutation xs ys) (sorted : IsSortedByKey rank nat_cmp ys)
    (stable : IsStableByKey rank nat_cmp xs ys) where
  rising : IsSortedByKey address nat_cmp xs
  rising = λ k d low lt. not_below (get_or xs k d).class (get_or xs (k + 1) d).class (up k (k + 1) d (omega arith) lt)

  distinct : IsDistinct same_class ys
  distinct = IsDistinct-IsPermutation same_class flips xs ys moved
      (IsDistinct-from_apart same_class xs (λ i j d le lt. unlike (get_or xs i d).class (get_or xs j d).class
      (up i j d le lt)))

  fits : All (λ c. c.bytes < 2 ^ 64) ys
  fits = All-permutation (λ c. c.bytes < 2 ^ 64) xs ys moved small

  next : (k : ℕ) (d : CountedClass) → k + 1 < length ys → Precedes (get_or ys k d) (get_or ys (k + 1) d)
  next k d lt = by (cases_lt (rank x) (rank y))
    where
      x : CountedClass
      x = get_or ys k d

      y : CountedClass
      y = get_or ys (k + 1) d

      le : rank x ≤ rank y
      le = ge_from_not_lt (rank y) (rank x) (sorted k d (omega arith) lt)

      x_fits : x.bytes < 2 ^ 64
      x_fits = All-get_or (λ c. c.bytes < 2 ^ 64) ys k d (omega (arith, lt)) fits

      y_fits : y.bytes < 2 ^ 64
      y_fits = All-get_or (λ c. c.bytes < 2 ^ 64) ys (k + 1) d lt fits

      by : (rank x < rank y) ⊎ (rank y ≤ rank x) → Precedes x y
      by (inl e) = inl (omega (arith, e, x_fits, y_fits))
      by (inr e) =
          let tie : rank x ≡ rank y = omega (arith, e, le) in
          let rise = ties_still_rise address rank xs ys rising stable k d lt tie in
          let other = differs x.class y.class (apart_from_distinct same_class ys k (k + 1) d distinct
          (omega arith) lt) in
          inr (omega (arith, tie, x_fits, y_fits), omega (arith, rise, other))

  far : (n k : ℕ) (d : CountedClass) → k + 1 + n < length ys → Precedes (get_or ys k d) (get_or ys (k + 1 + n) d)
  far zero k d lt = subst (λ j. Precedes (get_or ys k d) (get_or ys j d)) (omega arith) (next k d (omega (arith, lt)))
  far (suc n) k d lt =
      let h = precedes_on (get_or ys k d) (get_or ys (k + 1 + n) d) (get_or ys (k + 1 + n + 1) d)
      (far n k d (omega (arith, lt))) (next (k + 1 + n) d (omega (arith, lt))) in
      subst (λ j. Precedes (get_or ys k d) (get_or ys j d)) (omega arith) h

  pub in_order : AllPairs Precedes ys
  in_order = λ i j d le lt. subst (λ k. Precedes (get_or ys i d) (get_or ys k d)) (omega (arith, le))
      (far (j - (i + 1)) i d (omega (arith, le, lt)))

-- what follows, as a result
pub on_ok : {T E : Type 0} {A B : Type 0} (r : Result T E) → OnOk r A → (A → B) → OnOk r B
on_ok (Ok x) a f = f a
on_ok (Err e) a f = tt
