-- Neighbours in a list.
use Rattle.std.proofs.Common.{◌≡◌, ◌⊎◌, ℕ, ◌+◌, ◌<◌, suc, zero, Bool, true, false, List, [], ◌∷◌, length, get_or, leb}
use Rattle.std.proofs.Common.{refl, sym, ap, subst, ◌∙◌, arith, inl, inr, eqb}
use Rattle.std.specs.Prelude.{sum_by, cond}
use Rattle.std.specs.Bool.{MatchBool}
use Rattle.std.specs.List.{AllAdjacentBelow, IsAllAdjacentAnswer}
use Rattle.std.specs.List.Sorted.{IsPermutation, IsNonDecreasing}
use Rattle.std.proofs.lemmas.Bool.{and_parts, and_from, and_left, and_right, cases_order, leb-true, eq-eqb, ne_eqb}
use Rattle.std.proofs.lemmas.Bool.{le-leb, lt-leb}
use Rattle.std.proofs.lemmas.List.Sorted.{sum_by-IsPermutation, all_adjacent_from_non_decreasing}
use Rattle.std.proofs.lemmas.List.Sums.{sum_by-cons}
use Rattle.normalize_core.specs.Order.{adjacent, first_behind, ascends}

pub adjacent-true : {X : Type 0} (test : X → X → Bool) (xs : List X)
    → AllAdjacentBelow (λ x y. test x y ≡ true) xs (length xs) → adjacent test xs ≡ true
adjacent-true test [] h = refl
adjacent-true test (x ∷ []) h = refl
adjacent-true test (x ∷ (y ∷ ys)) h =
    and_from (test x y) (adjacent test (y ∷ ys)) (h 0 x (omega arith))
    (adjacent-true test (y ∷ ys) (λ k d lt.
    let e : suc k + 1 ≡ suc (k + 1) = omega arith in
    subst (λ n. test (get_or (y ∷ ys) k d) (get_or (x ∷ (y ∷ ys)) n d) ≡ true) e (h (suc k) d (omega arith))))

pub adjacent-false : {X : Type 0} (test : X → X → Bool) (xs : List X) (k : ℕ) → k + 1 < length xs
    → ((d : X) → test (get_or xs k d) (get_or xs (k + 1) d) ≡ false) → adjacent test xs ≡ false
adjacent-false test [] k lt h = absurd (omega arith)
adjacent-false test (x ∷ []) k lt h = absurd (omega arith)
adjacent-false test (x ∷ (y ∷ ys)) zero lt h = and_left (test x y) (adjacent test (y ∷ ys)) (h x)
adjacent-false test (x ∷ (y ∷ ys)) (suc k) lt h =
    and_right (test x y) (adjacent test (y ∷ ys)) (adjacent-false test (y ∷ ys) k (omega arith) (λ d.
    let e : suc k + 1 ≡ suc (k + 1) = omega arith in
    subst (λ n. test (get_or (y ∷ ys) k d) (get_or (x ∷ (y ∷ ys)) n d) ≡ false) e (h d)))

pub adjacent_is : {X : Type 0} (test : X → X → Bool) (xs : List X) (r : Bool)
    → IsAllAdjacentAnswer (λ x y b. b ≡ test x y) xs r → r ≡ adjacent test xs
adjacent_is test xs true h = sym (adjacent-true test xs (λ k d lt. sym (h k d lt)))
adjacent_is test xs false h = sym (adjacent-false test xs h.0 h.1 (λ d. sym (h.2 d)))

pub ascends-from : (xs : List ℕ) → IsNonDecreasing xs → ascends xs ≡ true
ascends-from xs h =
    adjacent-true leb xs (λ k d lt. le-leb _ _ (all_adjacent_from_non_decreasing (λ (x : ℕ). x) xs h k d lt))

pub ascends_is : (xs : List ℕ) (r : Bool)
    → MatchBool r (IsNonDecreasing xs) ((k : ℕ) × (k + 1 < length xs) × ((d : ℕ) → get_or xs (k + 1) d < get_or xs k d))
    → r ≡ ascends xs
ascends_is xs true h = sym (ascends-from xs h)
ascends_is xs false h = sym (adjacent-false leb xs h.0 h.1 (λ d. lt-leb _ _ (h.2 d)))

pub adjacent_all : {X : Type 0} (test : X → X → Bool) (xs : List X) → adjacent test xs ≡ true
    → AllAdjacentBelow (λ x y. test x y ≡ true) xs (length xs)
adjacent_all test [] h k d lt = absurd (omega arith)
adjacent_all test (x ∷ []) h k d lt = absurd (omega arith)
adjacent_all test (x ∷ (y ∷ ys)) h zero d lt =
    let p = and_parts (test x y) (adjacent test (y ∷ ys)) h in p.0
adjacent_all test (x ∷ (y ∷ ys)) h (suc k) d lt =
    let p = and_parts (test x y) (adjacent test (y ∷ ys)) h in
    let e : suc (k + 1) ≡ suc k + 1 = omega arith in
    subst (λ n. test (get_or (y ∷ ys) k d) (get_or (x ∷ (y ∷ ys)) n d) ≡ true) e
    (adjacent_all test (y ∷ ys) p.1 k d (omega arith))

-- how often a number stands in a list
abbrev is_it : ℕ → ℕ → ℕ
is_it v x = cond (eqb x v) 1 0

abbrev tally : ℕ → List ℕ → ℕ
tally v [] = 0
tally v (x ∷ xs) = is_it v x + tally v xs

tally_is : (v : ℕ) (xs : List ℕ) → sum_by (is_it v) xs ≡ tally v xs
tally_is v [] = refl
tally_is v (x ∷ xs) = sum_by-cons (is_it v) x xs ∙ ap (λ n. is_it v x + n) (tally_is v xs)

it-same : (v : ℕ) → is_it v v ≡ 1
it-same v = ap (λ b. cond b 1 0) (eq-eqb v v refl)

it-other : (v x : ℕ) → v < x → is_it v x ≡ 0
it-other v x lt = ap (λ b. cond b 1 0) (ne_eqb x v (λ e. omega arith))

above : (v x : ℕ) (xs : List ℕ) → v < x → ascends (x ∷ xs) ≡ true → tally v (x ∷ xs) ≡ 0
above v x [] lt up = ap (λ n. n + 0) (it-other v x lt)
above v x (y ∷ ys) lt up =
    let p = and_parts (leb x y) (ascends (y ∷ ys)) up in
    let le = leb-true x y p.0 in
    let further : v < y = omega (arith, le, lt) in
    ap (λ n. n + tally v (y ∷ ys)) (it-other v x lt) ∙ ap (λ n. 0 + n) (above v y ys further p.1)

ascends-tail : (x : ℕ) (xs : List ℕ) → ascends (x ∷ xs) ≡ true → ascends xs ≡ true
ascends-tail x xs up = let p = and_parts (first_behind leb x xs) (ascends xs) up in p.1

-- a number that stands in a list doesn't stand there no times
clash : {P : Type 0} (a n m : ℕ) → a + n ≡ m → a ≡ 1 → m ≡ 0 → P
clash a n m e f g = absurd (omega arith)

same_tallies : (xs ys : List ℕ) → ascends xs ≡ true → ascends ys ≡ true
    → ((v : ℕ) → tally v xs ≡ tally v ys) → xs ≡ ys
same_tallies [] [] up vp h = refl
same_tallies [] (y ∷ ys) up vp h = clash (is_it y y) (tally y ys) 0 (sym (h y)) (it-same y) refl
same_tallies (x ∷ xs) [] up vp h = clash (is_it x x) (tally x xs) 0 (h x) (it-same x) refl
same_tallies (x ∷ xs) (y ∷ ys) up vp h =
    by (cases_order x y) (λ rest. same_tallies xs ys (ascends-tail x xs up) (ascends-tail y ys vp) rest)
  where
    tails : x ≡ y → (v : ℕ) → tally v xs ≡ tally v ys
    tails e v =
        let f : is_it v x + tally v xs ≡ is_it v y + tally v ys = h v in
        let g : is_it v x ≡ is_it v y = ap (is_it v) e in
        omega (arith, f, g)

    by : (x ≡ y) ⊎ ((x < y) ⊎ (y < x)) → (((v : ℕ) → tally v xs ≡ tally v ys) → xs ≡ ys) → x ∷ xs ≡ y ∷ ys
    by (inl e) go = ap (λ n. n ∷ xs) e ∙ ap (λ ns. y ∷ ns) (go (tails e))
    by (inr (inl lt)) go =
        clash (is_it x x) (tally x xs) (tally x (y ∷ ys)) (h x) (it-same x) (above x y ys lt vp)
    by (inr (inr lt)) go =
        clash (is_it y y) (tally y ys) (tally y (x ∷ xs)) (sym (h y)) (it-same y) (above y x xs lt up)

-- numbers ascend in one order alone
pub ascending-once : (xs ys zs : List ℕ) → IsPermutation xs ys → IsPermutation xs zs
    → ascends ys ≡ true → ascends zs ≡ true → ys ≡ zs
ascending-once xs ys zs h k up vp =
    same_tallies ys zs up vp (λ v. sym (tally_is v ys) ∙ sum_by-IsPermutation (is_it v) xs ys h
    ∙ sym (sum_by-IsPermutation (is_it v) xs zs k) ∙ tally_is v zs)
