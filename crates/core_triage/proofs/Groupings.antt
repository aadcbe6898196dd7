-- The groups of a list by an equivalence are a grouping of it.
use Rattle.std.proofs.Common.{◌≡◌, ◌<◌, ◌≤◌, ◌↔◌, ℕ, zero, suc, ◌+◌, Bool, true, false, ◌||◌, List, [], ◌∷◌, ◌++◌, length, map, get_or}
use Rattle.std.proofs.Common.{nat_eq, nat_lt, Option, Some, None, refl, sym, ◌∙◌, ap, subst, arith, inl, inr}
use Rattle.std.proofs.Common.{zero-add, add-zero, All, Any, Contains, sum_by, slice_get, option_map}
use Rattle.std.specs.Prelude.{if◌then◌else◌}
use Rattle.std.specs.List.{concat, list_any, IsDistinct}
use Rattle.std.specs.List.Sorted.{IsStrictlyIncreasing}
use Rattle.std.specs.Cmp.{IsEquivalence}
use Rattle.std.proofs.lemmas.Bool.{true≢false, cases_Bool, cases_eq, lt-ltb, le-ltb, or_parts, or_left, or_right, or_cases, ne_eqb, eq-eqb}
use Rattle.std.proofs.lemmas.List.{append_assoc, length_push, length-map}
use Rattle.std.proofs.lemmas.List.Elements.{All-nil, All-cons}
use Rattle.std.proofs.lemmas.List.Sums.{sum_by-cons, sum_by-append}
use Rattle.std.proofs.lemmas.Option.{slice_get-map, slice_get_cases, same_Some, none-some}
use Rattle.std.proofs.lemmas.Map.Keys.{IsDistinct-head, IsDistinct-tail}
use Rattle.std.proofs.lemmas.Map.Steps.{list_any_congr}
use Rattle.core_triage.specs.Groups.{places_from, firsts_after, groups_of, times, StandTogether, IsGrouping}
use Rattle.core_triage.proofs.Growing.{again, at_most, moved, places_push, rest_apart}

-- ---- how many times a number stands

abbrev one_at : Bool → ℕ
one_at b = if b then 1 else 0

times_cons : (n m : ℕ) (ns : List ℕ) → times n (m ∷ ns) ≡ one_at (nat_eq m n) + times n ns
times_cons n m ns = sum_by-cons (λ k. if nat_eq k n then 1 else 0) m ns

times_append : (n : ℕ) (ms ns : List ℕ) → times n (ms ++ ns) ≡ times n ms + times n ns
times_append n ms ns = sum_by-append (λ k. if nat_eq k n then 1 else 0) ms ns

-- another number in front changes nothing
skip : (b : Bool) (n m : ℕ) (ns : List ℕ) → (m ≡ n → ⊥) → times n (if b then (m ∷ ns) else ns) ≡ times n ns
skip false n m ns apart = refl
skip true n m ns apart = times_cons n m ns ∙ ap (λ b. one_at b + times n ns) (ne_eqb m n apart) ∙ zero-add (times n ns)

-- the number itself counts once
hit : (b : Bool) (n m : ℕ) (ns : List ℕ) → m ≡ n → times n ns ≡ 0 → times n (if b then (m ∷ ns) else ns) ≡ one_at b
hit false n m ns same none = none
hit true n m ns same none = times_cons n m ns ∙ ap (λ b. one_at b + times n ns) (eq-eqb m n same) ∙ ap (λ k. 1 + k) none

-- ---- the places of a test

-- what an element counts, if there is one
abbrev one_if : {K : Type 0} → (K → Bool) → Option K → ℕ
one_if passes None = 0
one_if passes (Some x) = one_at (passes x)

module _ {K : Type 0} (passes : K → Bool) where
  times_before : (at : ℕ) (xs : List K) (place : ℕ) → place < at → times place (places_from passes at xs) ≡ 0
  times_before at [] place low = refl
  times_before at (x ∷ xs) place low =
      skip (passes x) place at (places_from passes (at + 1) xs) (λ e. omega arith) ∙ times_before (at + 1) xs place (omega arith)

  -- a place stands once where its element passes
  times_at : (at : ℕ) (xs : List K) (i place : ℕ) → place ≡ at + i → times place (places_from passes at xs) ≡ one_if passes (slice_get xs i)
  times_at at [] i place is = refl
  times_at at (x ∷ xs) zero place is =
      hit (passes x) place at (places_from passes (at + 1) xs) (omega arith) (times_before (at + 1) xs place (omega arith))
  times_at at (x ∷ xs) (suc i) place is =
      skip (passes x) place at (places_from passes (at + 1) xs) (λ e. omega arith) ∙ times_at (at + 1) xs i place (omega arith)

  times_of : (xs : List K) (place : ℕ) → times place (places_from passes 0 xs) ≡ one_if passes (slice_get xs place)
  times_of xs place = times_at 0 xs place place (omega arith)

  places_append : (at : ℕ) (xs ys : List K) → places_from passes at (xs ++ ys) ≡ places_from passes at xs ++ places_from passes (at + length xs) ys
  places_append at [] ys = ap (λ n. places_from passes n ys) (sym (add-zero at))
  places_append at (x ∷ xs) ys = by_test (passes x) (places_append (at + 1) xs ys ∙ ap (λ n. places_from passes (at + 1) xs ++ places_from passes n ys) (omega arith))
    where
      by_test : (b : Bool) → places_from passes (at + 1) (xs ++ ys) ≡ places_from passes (at + 1) xs ++ places_from passes (at + length (x ∷ xs)) ys
          → (if b then (at ∷ places_from passes (at + 1) (xs ++ ys)) else places_from passes (at + 1) (xs ++ ys))
          ≡ (if b then (at ∷ places_from passes (at + 1) xs) else places_from passes (at + 1) xs) ++ places_from passes (at + length (x ∷ xs)) ys
      by_test true e = ap (λ ns. at ∷ ns) e
      by_test false e = e

-- a list that has a number counts it
contains_times : (n : ℕ) (ns : List ℕ) → Contains ns n → 0 < times n ns
contains_times n [] (k, below, is) = absurd (omega arith)
contains_times n (m ∷ ns) (zero, below, is) = omega (arith, times_cons n m ns, ap one_at (eq-eqb m n is))
contains_times n (m ∷ ns) (suc k, below, is) = omega (arith, times_cons n m ns, contains_times n ns (k, omega arith, is))

times_contains : (n : ℕ) (ns : List ℕ) → 0 < times n ns → Contains ns n
times_contains n [] more = absurd (omega arith)
times_contains n (m ∷ ns) more = elim (cases_eq m n) [
  | inl e ↦ (0, omega arith, e)
  | inr apart ↦
      let rest : times n (m ∷ ns) ≡ times n ns = skip true n m ns apart in
      let (k, below, is) = times_contains n ns (omega arith) in
      (suc k, omega arith, is)
]

one_true : (b : Bool) → 0 < one_at b → b ≡ true
one_true true h = refl
one_true false h = absurd (omega arith)

-- the places of a test have a place exactly where the element there passes
has_place : {K : Type 0} (passes : K → Bool) (xs : List K) (p : ℕ) (x : K) → slice_get xs p ≡ Some x
    → Contains (places_from passes 0 xs) p ↔ (passes x ≡ true)
has_place passes xs p x is =
    let count : times p (places_from passes 0 xs) ≡ one_at (passes x) = times_of passes xs p ∙ ap (one_if passes) is in (
      λ has. one_true (passes x) (subst (λ n. 0 < n) count (contains_times p (places_from passes 0 xs) has)),
      λ yes. times_contains p (places_from passes 0 xs) (omega (arith, count, ap one_at yes)),
    )

-- ---- numbers that ascend

-- numbers from this one on, each above the one before
abbrev Ascend : ℕ → List ℕ → Type 0
Ascend low [] = Unit {0}
Ascend low (n ∷ ns) = (low ≤ n) × Ascend (n + 1) ns

lower : (low : ℕ) (ns : List ℕ) → Ascend (low + 1) ns → Ascend low ns
lower low [] up = tt
lower low (n ∷ ns) (above, up) = (omega arith, up)

increase : (low : ℕ) (ns : List ℕ) → Ascend low ns → IsStrictlyIncreasing ns
increase low [] up = λ k h. absurd (omega arith)
increase low (n ∷ []) up = λ k h. absurd (omega arith)
increase low (n ∷ m ∷ ns) (above, (next, up)) = steps (increase (n + 1) (m ∷ ns) (next, up))
  where
    steps : IsStrictlyIncreasing (m ∷ ns) → IsStrictlyIncreasing (n ∷ m ∷ ns)
    steps rest zero h = omega arith
    steps rest (suc k) h =
        let next : suc (k + 1) ≡ suc k + 1 = omega arith in
        subst (λ j. get_or (m ∷ ns) k 0 < get_or (n ∷ m ∷ ns) j 0) next (rest k (omega arith))

places_ascend : {K : Type 0} (passes : K → Bool) (at : ℕ) (xs : List K) → Ascend at (places_from passes at xs)
places_ascend passes at [] = tt
places_ascend passes at (x ∷ xs) = by_test (passes x) (places_ascend passes (at + 1) xs)
  where
    by_test : (b : Bool) → Ascend (at + 1) (places_from passes (at + 1) xs)
        → Ascend at (if b then (at ∷ places_from passes (at + 1) xs) else places_from passes (at + 1) xs)
    by_test true up = (omega arith, up)
    by_test false up = lower at (places_from passes (at + 1) xs) up

each_ascends : {K : Type 0} (same : K → K → Bool) (xs fs : List K) → All IsStrictlyIncreasing (map (λ f. places_from (same f) 0 xs) fs)
each_ascends same xs [] = All-nil IsStrictlyIncreasing
each_ascends same xs (f ∷ fs) =
    All-cons IsStrictlyIncreasing (places_from (same f) 0 xs) (map (λ g. places_from (same g) 0 xs) fs)
    (increase 0 (places_from (same f) 0 xs) (places_ascend (same f) 0 xs)) (each_ascends same xs fs)

-- ---- groups in the order of their first places

-- a group has a first place, from this number on, and the groups after it have later ones
abbrev Begin : ℕ → List (List ℕ) → Type 0
Begin low [] = Unit {0}
Begin low (g ∷ gs) = (first : ℕ) × (rest : List ℕ) × (g ≡ first ∷ rest) × (low ≤ first) × Begin (first + 1) gs

begin_lower : (low : ℕ) (gs : List (List ℕ)) → Begin (low + 1) gs → Begin low gs
begin_lower low [] h = tt
begin_lower low (g ∷ gs) (first, rest, is, above, more) = (first, rest, is, omega arith, more)

abbrev first_of : List ℕ → ℕ
first_of g = get_or g 0 0

firsts_ascend : (low : ℕ) (gs : List (List ℕ)) → Begin low gs → Ascend low (map first_of gs)
firsts_ascend low [] h = tt
firsts_ascend low (g ∷ gs) (first, rest, is, above, more) =
    let at : first_of g ≡ first = ap first_of is in
    (omega arith, subst (λ n. Ascend (n + 1) (map first_of gs)) (sym at) (firsts_ascend (first + 1) gs more))

abbrev IsFilled : List ℕ → Type 0
IsFilled g = 0 < length g

all_filled : (low : ℕ) (gs : List (List ℕ)) → Begin low gs → All IsFilled gs
all_filled low [] h = All-nil IsFilled
all_filled low (g ∷ gs) (first, rest, is, above, more) =
    All-cons IsFilled g gs (omega (arith, ap length is)) (all_filled (first + 1) gs more)

-- ---- the groups of a list

module _ {K : Type 0} {same : K → K → Bool} (laws : IsEquivalence same) where
  abbrev places : List K → K → List ℕ
  places xs f = places_from (same f) 0 xs

  -- an element of the list is the same as one before it or one of the firsts
  covered : (before xs : List K) (i : ℕ) (x : K) → slice_get xs i ≡ Some x → again same before xs x ≡ true
  covered before [] i x is = absurd (none-some x is)
  covered before (y ∷ ys) zero x is = here (list_any (same y) before) refl (laws.refl y)
    where
      e : y ≡ x
      e = same_Some y x is

      here : (b : Bool) → list_any (same y) before ≡ b → same y y ≡ true
          → (list_any (same x) before || list_any (same x) (if b then firsts_after same before ys else (y ∷ firsts_after same (y ∷ before) ys))) ≡ true
      here true old own = or_left (list_any (same x) before) _ (subst (λ z. list_any (same z) before ≡ true) e old)
      here false new own = or_right (list_any (same x) before) _ (or_left (same x y) _ (subst (λ z. same z y ≡ true) e own))
  covered before (y ∷ ys) (suc i) x is = there (list_any (same y) before) (covered before ys i x is) (covered (y ∷ before) ys i x is)
    where
      there : (b : Bool) → again same before ys x ≡ true → again same (y ∷ before) ys x ≡ true
          → (list_any (same x) before || list_any (same x) (if b then firsts_after same before ys else (y ∷ firsts_after same (y ∷ before) ys))) ≡ true
      there true rest more = rest
      there false rest more = sym (moved (same x y) (list_any (same x) before) (list_any (same x) (firsts_after same (y ∷ before) ys))) ∙ more

  -- ---- each place once

  -- how many of these elements are the same as x
  abbrev like : K → List K → ℕ
  like x fs = sum_by (λ f. one_at (same f x)) fs

  like_none : (x : K) (fs : List K) → list_any (same x) fs ≡ false → like x fs ≡ 0
  like_none x [] none = refl
  like_none x (f ∷ fs) none =
      let (apart, rest) = or_parts (same x f) (list_any (same x) fs) none in
      let other : one_at (same f x) ≡ 0 = ap one_at (laws.symm f x ∙ apart) in
      omega (arith, sum_by-cons (λ g. one_at (same g x)) f fs, other, like_none x fs rest)

  like_one : (x : K) (fs : List K) → IsDistinct same fs → list_any (same x) fs ≡ true → like x fs ≡ 1
  like_one x [] apart some = absurd (true≢false (sym some))
  like_one x (f ∷ fs) apart some = elim (cases_Bool (same x f)) [
    | inl e ↦
        let own : one_at (same f x) ≡ 1 = ap one_at (laws.symm f x ∙ e) in
        omega (arith, sum_by-cons (λ g. one_at (same g x)) f fs, own, like_none x fs (rest_apart laws x f fs e (IsDistinct-head same f fs apart)))
    | inr e ↦
        let other : one_at (same f x) ≡ 0 = ap one_at (laws.symm f x ∙ e) in
        let rest : list_any (same x) fs ≡ true = sym (ap (λ b. b || list_any (same x) fs) e) ∙ some in
        omega (arith, sum_by-cons (λ g. one_at (same g x)) f fs, other, like_one x fs (IsDistinct-tail same f fs apart) rest)
  ]

  times_all : (h : K → List ℕ) (place : ℕ) (fs : List K) → times place (concat (map h fs)) ≡ sum_by (λ f. times place (h f)) fs
  times_all h place [] = refl
  times_all h place (f ∷ fs) =
      times_append place (h f) (concat (map h fs)) ∙ ap (λ n. times place (h f) + n) (times_all h place fs)
      ∙ sym (sum_by-cons (λ g. times place (h g)) f fs)

  none_at : (fs : List K) → sum_by (λ (f : K). 0) fs ≡ 0
  none_at [] = refl
  none_at (f ∷ fs) = sum_by-cons (λ (g : K). 0) f fs ∙ omega (arith, none_at fs)

  -- the firsts that are the same as what stands at a place, if anything does
  counted : (xs : List K) (place : ℕ) → times place (concat (map (places xs) (firsts_after same [] xs)))
      ≡ sum_by (λ f. one_if (same f) (slice_get xs place)) (firsts_after same [] xs)
  counted xs place = times_all (places xs) place (firsts_after same [] xs)
      ∙ ap (λ (count : K → ℕ). sum_by count (firsts_after same [] xs)) (λ i f. times_of (same f) xs place i)

  stands_once : (xs : List K) → IsDistinct same (firsts_after same [] xs) → (place : ℕ)
      → times place (concat (map (places xs) (firsts_after same [] xs))) ≡ (if nat_lt place (length xs) then 1 else 0)
  stands_once xs apart place = elim ((slice_get_cases xs place).1) [
    | inl (x, below, is, at) ↦
        counted xs place ∙ ap (λ o. sum_by (λ f. one_if (same f) o) (firsts_after same [] xs)) is
        ∙ like_one x (firsts_after same [] xs) apart (covered [] xs place x is)
        ∙ sym (ap one_at (lt-ltb place (length xs) below))
    | inr (past, is) ↦
        counted xs place ∙ ap (λ o. sum_by (λ f. one_if (same f) o) (firsts_after same [] xs)) is
        ∙ none_at (firsts_after same [] xs)
        ∙ sym (ap one_at (le-ltb place (length xs) past))
  ]

  -- ---- together

  any_of : (P : List ℕ → Type 0) (h : K → List ℕ) (fs : List K) → Any P (map h fs) → (f : K) × P (h f)
  any_of P h [] (k, g, below, is, holds) = absurd (omega arith)
  any_of P h (f ∷ fs) (zero, g, below, is, holds) = (f, subst P (sym is) holds)
  any_of P h (f ∷ fs) (suc k, g, below, is, holds) = any_of P h fs (k, g, omega arith, is, holds)

  any_from : (P : List ℕ → Type 0) (h : K → List ℕ) (x : K) (fs : List K) → list_any (same x) fs ≡ true
      → ((f : K) → same x f ≡ true → P (h f)) → Any P (map h fs)
  any_from P h x [] some all = absurd (true≢false (sym some))
  any_from P h x (f ∷ fs) some all = elim (or_cases (same x f) (list_any (same x) fs) some) [
    | inl e ↦ (0, h f, omega arith, refl, all f e)
    | inr rest ↦ let (k, g, below, is, holds) = any_from P h x fs rest all in (suc k, g, omega arith, is, holds)
  ]

  stand_together : (xs : List K) (p q : ℕ) (x y : K) → slice_get xs p ≡ Some x → slice_get xs q ≡ Some y
      → StandTogether (map (places xs) (firsts_after same [] xs)) p q ↔ (same x y ≡ true)
  stand_together xs p q x y at_p at_q = (left, right)
    where
      left : StandTogether (map (places xs) (firsts_after same [] xs)) p q → same x y ≡ true
      left both =
          let (f, has) = any_of (λ g. Contains g p × Contains g q) (places xs) (firsts_after same [] xs) both in
          let like_x : same f x ≡ true = (has_place (same f) xs p x at_p).0 has.0 in
          let like_y : same f y ≡ true = (has_place (same f) xs q y at_q).0 has.1 in
          sym (laws.congr f x y like_x) ∙ like_y

      right : same x y ≡ true → StandTogether (map (places xs) (firsts_after same [] xs)) p q
      right e = any_from (λ g. Contains g p × Contains g q) (places xs) x (firsts_after same [] xs) (covered [] xs p x at_p) (λ f like_f.
          let flipped : same f x ≡ true = laws.symm f x ∙ like_f in
          ((has_place (same f) xs p x at_p).1 flipped, (has_place (same f) xs q y at_q).1 (sym (laws.congr x f y like_f) ∙ e)))

  -- ---- in order

  -- the firsts after some elements, of which each is the same as one before, begin at places behind these
  begins : (before front xs : List K) → ((x : K) → list_any (same x) before ≡ false → places front x ≡ [])
      → Begin (length front) (map (places (front ++ xs)) (firsts_after same before xs))
  begins before front [] past = tt
  begins before front (y ∷ ys) past = elim (cases_Bool (list_any (same y) before)) [
    | inl old ↦
        let rest = begins before (front ++ y ∷ []) ys (λ x new. places_push (same x) 0 front y ∙ ap (λ ns. ns ++ at_most (same x y) (0 + length front)) (past x new) ∙ ap (λ b. at_most b (0 + length front)) (other x old new)) in
        subst (λ b. Begin (length front) (map (places (front ++ y ∷ ys)) (if b then firsts_after same before ys else (y ∷ firsts_after same (y ∷ before) ys)))) (sym old)
        (begin_lower (length front) (map (places (front ++ y ∷ ys)) (firsts_after same before ys))
        (subst (λ zs. Begin (length front + 1) (map (places zs) (firsts_after same before ys))) (append_assoc front (y ∷ []) ys)
        (subst (λ n. Begin n (map (places ((front ++ y ∷ []) ++ ys)) (firsts_after same before ys))) (length_push front y) rest)))
    | inr new ↦
        let rest = begins (y ∷ before) (front ++ y ∷ []) ys (λ x fresh. let (apart, none) = or_parts (same x y) (list_any (same x) before) fresh in places_push (same x) 0 front y ∙ ap (λ ns. ns ++ at_most (same x y) (0 + length front)) (past x none) ∙ ap (λ b. at_most b (0 + length front)) apart) in
        subst (λ b. Begin (length front) (map (places (front ++ y ∷ ys)) (if b then firsts_after same before ys else (y ∷ firsts_after same (y ∷ before) ys)))) (sym new) (
          length front,
          places_from (same y) (length front + 1) ys,
          own new,
          omega arith,
          subst (λ zs. Begin (length front + 1) (map (places zs) (firsts_after same (y ∷ before) ys))) (append_assoc front (y ∷ []) ys)
              (subst (λ n. Begin n (map (places ((front ++ y ∷ []) ++ ys)) (firsts_after same (y ∷ before) ys))) (length_push front y) rest),
        )
  ]
    where
      other : (x : K) → list_any (same y) before ≡ true → list_any (same x) before ≡ false → same x y ≡ false
      other x old none = elim (cases_Bool (same x y)) [
        | inl e ↦ absurd (true≢false (sym old ∙ sym (list_any_congr laws x y before e) ∙ none))
        | inr e ↦ e
      ]

      own : list_any (same y) before ≡ false → places (front ++ y ∷ ys) y ≡ length front ∷ places_from (same y) (length front + 1) ys
      own new = places_append (same y) 0 front (y ∷ ys) ∙ ap (λ ns. ns ++ places_from (same y) (0 + length front) (y ∷ ys)) (past y new)
          ∙ ap (λ n. places_from (same y) n (y ∷ ys)) (zero-add (length front))
          ∙ ap (λ b. if b then (length front ∷ places_from (same y) (length front + 1) ys) else places_from (same y) (length front + 1) ys) (laws.refl y)

  -- the groups by an equivalence are a grouping by it
  pub are_grouping : (xs : List K) → IsDistinct same (firsts_after same [] xs) → IsGrouping (λ a b. same a b ≡ true) xs (groups_of same xs)
  unfolding groups_of
  are_grouping xs apart =
      let order : Begin 0 (groups_of same xs) = begins [] [] xs (λ x none. refl) in
      record {
        once = stands_once xs apart;
        together = stand_together xs;
        ascend = each_ascends same xs (firsts_after same [] xs);
        filled = all_filled 0 (groups_of same xs) order;
        in_order = increase 0 (map first_of (groups_of same xs)) (firsts_ascend 0 (groups_of same xs) order);
      }

-- by what of the elements is compared
pub by_view : {K V : Type 0} (Same : K → K → Type 0) (view : K → V) → ((a b : K) → Same a b ↔ (view a ≡ view b))
    → (xs : List K) (groups : List (List ℕ)) → IsGrouping Same xs groups → IsGrouping (λ (a b : V). a ≡ b) (map view xs) groups
by_view {K} {V} Same view is_by xs groups is = record {
  once = λ place. is.once place ∙ ap (λ n. one_at (nat_lt place n)) (sym (length-map xs view));
  together = both;
  ascend = is.ascend;
  filled = is.filled;
  in_order = is.in_order;
}
  where
    seen : (o : Option K) (u : V) → option_map view o ≡ Some u → (x : K) × (o ≡ Some x) × (view x ≡ u)
    seen None u e = absurd (none-some u e)
    seen (Some x) u e = (x, refl, same_Some (view x) u e)

    both : (p q : ℕ) (u v : V) → slice_get (map view xs) p ≡ Some u → slice_get (map view xs) q ≡ Some v → StandTogether groups p q ↔ (u ≡ v)
    both p q u v at_p at_q =
        let (x, at_x, view_x) = seen (slice_get xs p) u (sym (slice_get-map view xs p) ∙ at_p) in
        let (y, at_y, view_y) = seen (slice_get xs q) v (sym (slice_get-map view xs q) ∙ at_q) in
        let there = is.together p q x y at_x at_y in
        (λ stand. sym view_x ∙ (is_by x y).0 (there.0 stand) ∙ view_y, λ e. there.1 ((is_by x y).1 (view_x ∙ e ∙ sym view_y)))
