-- Whether an address is among those that were met; and lists without repetition, one more at a time.
use Rattle.std.proofs.Common.{◌≡◌, ◌≢◌, ℕ, zero, suc, ◌+◌, ◌<◌, ◌⊎◌, Bool, true, false, List, [], ◌∷◌, ◌++◌, length}
use Rattle.std.proofs.Common.{refl, sym, ◌∙◌, arith, append_assoc, get_or, inl, inr, length-append, nat_eq}
use Rattle.std.specs.Prelude.{⊤, ◌||◌}
use Rattle.std.specs.List.{AllPairs, Contains}
use Rattle.std.proofs.lemmas.List.{append-nil, get_or-append-add, get_or_append_left, get_or_default}
use Rattle.std.proofs.lemmas.List.Quantifiers.{all_pairs_push}
use Rattle.thread_exceptions.specs.Links.{has}

either : (b c : Bool) → (b || c) ≡ true → (b ≡ true) ⊎ (c ≡ true)
either true c h = inl refl
either false c h = inr h

or_right : (b c : Bool) → c ≡ true → (b || c) ≡ true
or_right true c h = refl
or_right false c h = h

same : (x y : ℕ) → nat_eq x y ≡ true → x ≡ y
same x y e = grind arith

itself : (x y : ℕ) → x ≡ y → nat_eq x y ≡ true
itself x y e = grind arith

pub has_contains : (met : List ℕ) (a : ℕ) → has met a ≡ true → Contains met a
has_contains [] a h = absurd (cc)
has_contains (x ∷ xs) a h = elim (either (nat_eq x a) (has xs a) h) [
  | inl e ↦ (0, omega arith, same x a e)
  | inr e ↦ let r = has_contains xs a e in (suc r.0, omega (arith, r.1), r.2)
]

pub contains_has : (met : List ℕ) (a : ℕ) → Contains met a → has met a ≡ true
contains_has [] a h = absurd (omega (arith, h.1))
contains_has (x ∷ xs) a (zero, lt, e) = rw (itself x a e) refl
contains_has (x ∷ xs) a (suc k, lt, e) = or_right (nat_eq x a) (has xs a) (contains_has xs a (k, omega (arith, lt), e))

pub has_no : (met : List ℕ) (a : ℕ) → (Contains met a → ⊥) → has met a ≡ false
has_no met a never = by (has met a) refl
  where
    by : (b : Bool) → has met a ≡ b → b ≡ false
    by true e = absurd (never (has_contains met a e))
    by false e = refl

pub no_contains : (met : List ℕ) (a : ℕ) → has met a ≡ false → Contains met a → ⊥
no_contains met a e h = let t = contains_has met a h in cc

-- each of some is among neither those that were met nor those in front of it
abbrev pub AreNew : List ℕ → List ℕ → Type 0
AreNew met [] = ⊤
AreNew met (x ∷ xs) = (has met x ≡ false) × AreNew (met ++ x ∷ []) xs

pub new_pairs : (met xs : List ℕ) → AllPairs (λ x y. x ≢ y) met → AreNew met xs → AllPairs (λ x y. x ≢ y) (met ++ xs)
new_pairs met [] h new = rw (append-nil met) h
new_pairs met (x ∷ xs) h new =
    rw (← append_assoc met (x ∷ []) xs) (new_pairs (met ++ x ∷ []) xs
    (all_pairs_push (λ a b. a ≢ b) met x h other) new.1)
  where
    other : (k d : ℕ) → k < length met → get_or met k d ≢ x
    other k d lt e = no_contains met x new.0 (k, lt, get_or_default met k x d lt ∙ e)

pub pairs_new : (met xs : List ℕ) → AllPairs (λ x y. x ≢ y) (met ++ xs) → AreNew met xs
pairs_new met [] h = tt
pairs_new met (x ∷ xs) h =
    let whole : met ++ x ∷ xs ≡ (met ++ x ∷ []) ++ xs = sym (append_assoc met (x ∷ []) xs) in
    (has_no met x never, pairs_new (met ++ x ∷ []) xs (rw whole at h))
  where
    never : Contains met x → ⊥
    never (k, lt, e) =
        let first : get_or (met ++ x ∷ xs) k x ≡ x = get_or_append_left met (x ∷ xs) x k lt ∙ e in
        let second : get_or (met ++ x ∷ xs) (length met + 0) x ≡ x = get_or-append-add met (x ∷ xs) 0 x in
        h k (length met + 0) x (omega (arith, lt)) (omega (arith, length-append met (x ∷ xs))) (first ∙ sym second)
