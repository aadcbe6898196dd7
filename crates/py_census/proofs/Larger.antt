-- The largest objects, with one more.
use Rattle.std.proofs.Common.{◌≡◌, ◌∙◌, ℕ, Bool, true, false, List, [], ◌∷◌, ◌++◌, map, refl, sym, ap, Option}
use Rattle.std.proofs.lemmas.List.{map-append}
use Rattle.py_census.specs.Large.{comes_before, first_three, in_order, large_of, largest, put, put_all, with_large}
use Rattle.py_census.specs.declared.large.LargeObject.{LargeObject}

-- one more is put in its place last
put_last : (ys xs : List LargeObject) (x : LargeObject) → put_all ys (xs ++ x ∷ []) ≡ put x (put_all ys xs)
put_last ys [] x = refl
put_last ys (y ∷ xs) x = put_last (put y ys) xs x

third : (x a b : LargeObject) (cs : List LargeObject) → comes_before x a ≡ false → comes_before x b ≡ false
    → with_large (first_three (a ∷ (b ∷ cs))) x ≡ first_three (put x (a ∷ (b ∷ cs)))
third x a b [] p q = rw (p, q) refl
third x a b (c ∷ cs) p q = by (comes_before x c) refl
  where
    by : (t : Bool) → comes_before x c ≡ t
        → with_large (first_three (a ∷ (b ∷ (c ∷ cs)))) x ≡ first_three (put x (a ∷ (b ∷ (c ∷ cs))))
    by true e = rw (p, q, e) refl
    by false e = rw (p, q, e) refl

second : (x a : LargeObject) (bs : List LargeObject) → comes_before x a ≡ false
    → with_large (first_three (a ∷ bs)) x ≡ first_three (put x (a ∷ bs))
second x a [] p = rw p refl
second x a (b ∷ cs) p = by (comes_before x b) refl
  where
    by : (t : Bool) → comes_before x b ≡ t
        → with_large (first_three (a ∷ (b ∷ cs))) x ≡ first_three (put x (a ∷ (b ∷ cs)))
    by true e = rw (p, e) refl
    by false e = third x a b cs p e

with_put : (x : LargeObject) (xs : List LargeObject) → with_large (first_three xs) x ≡ first_three (put x xs)
with_put x [] = refl
with_put x (a ∷ bs) = by (comes_before x a) refl
  where
    by : (t : Bool) → comes_before x a ≡ t → with_large (first_three (a ∷ bs)) x ≡ first_three (put x (a ∷ bs))
    by true e = rw e refl
    by false e = second x a bs e

pub larger : (size more : ℕ → Option ℕ) (zs : List ℕ) (x : ℕ)
    → with_large (largest size more zs) (large_of x (size x) (more x)) ≡ largest size more (zs ++ x ∷ [])
larger size more zs x =
    let f : ℕ → LargeObject = λ a. large_of a (size a) (more a) in
    with_put (f x) (in_order (map f zs))
    ∙ sym (ap first_three (ap in_order (map-append f zs (x ∷ [])) ∙ put_last [] (map f zs) (f x)))
