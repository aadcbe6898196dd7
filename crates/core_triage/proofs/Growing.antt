-- Groups of a list that grows by one element.
use Rattle.std.proofs.Common.{◌≡◌, ◌<◌, ℕ, suc, ◌+◌, Bool, true, false, ◌||◌, is_some, List, [], ◌∷◌, ◌++◌, length, map}
use Rattle.std.proofs.Common.{set, get_or, Option, Some, None, refl, sym, ◌∙◌, ap, subst, arith, inl, inr, ◌⊎◌}
use Rattle.std.proofs.Common.{unwrap_or, zero-add}
use Rattle.std.specs.Prelude.{if◌then◌else◌, option_map}
use Rattle.std.specs.List.{list_any, IsDistinct, AllByRecursion}
use Rattle.std.specs.Cmp.{IsEquivalence}
use Rattle.std.proofs.lemmas.Bool.{true≢false, cases_Bool}
use Rattle.std.proofs.lemmas.List.{map-append, append-nil, length-map}
use Rattle.std.proofs.lemmas.Map.Steps.{list_any_congr}
use Rattle.std.proofs.lemmas.Map.Keys.{IsDistinct-head, IsDistinct-tail, IsDistinct-push}
use Rattle.core_triage.specs.Groups.{places_from, firsts_after, groups_of}

-- ---- one more element

-- one place, or none
abbrev pub at_most : Bool → ℕ → List ℕ
at_most b n = if b then (n ∷ []) else []

in_turn : (b : Bool) (n : ℕ) (xs ys : List ℕ) → (if b then (n ∷ (xs ++ ys)) else (xs ++ ys)) ≡ (if b then (n ∷ xs) else xs) ++ ys
in_turn true n xs ys = refl
in_turn false n xs ys = refl

pub moved : (a b c : Bool) → ((a || b) || c) ≡ (b || (a || c))
moved true true c = refl
moved true false c = refl
moved false true c = refl
moved false false c = refl

or_first : (a b : Bool) → (a || b) ≡ false → a ≡ false
or_first false b e = refl
or_first true b e = e

or_second : (a b : Bool) → (a || b) ≡ false → b ≡ false
or_second false b e = e
or_second true b e = absurd (true≢false e)

found_at : (b : Bool) (o : Option ℕ) (n : ℕ) → (if b then Some 0 else option_map suc o) ≡ Some n
    → ((b ≡ true) × (n ≡ 0)) ⊎ ((b ≡ false) × (m : ℕ) × (o ≡ Some m) × (n ≡ suc m))
found_at true o n e = inl (refl, sym (ap (λ p. unwrap_or p 0) e))
found_at false None n e = absurd (true≢false (ap is_some (sym e)))
found_at false (Some m) n e = inr (refl, m, refl, sym (ap (λ p. unwrap_or p 0) e))

suc_none : (o : Option ℕ) → option_map suc o ≡ None → o ≡ None
suc_none None e = refl
suc_none (Some n) e = absurd (true≢false (ap is_some e))

abbrev or_then : Option ℕ → Option ℕ → Option ℕ
or_then None o = o
or_then (Some n) o = Some n

or_none : (o : Option ℕ) → or_then o None ≡ o
or_none None = refl
or_none (Some n) = refl

or_suc : (o p : Option ℕ) → option_map suc (or_then o p) ≡ or_then (option_map suc o) (option_map suc p)
or_suc None p = refl
or_suc (Some n) p = refl

suc_if : (b : Bool) (n : ℕ) → option_map suc (if b then Some n else None) ≡ (if b then Some (suc n) else None)
suc_if true n = refl
suc_if false n = refl

module _ {K : Type 0} where
  -- the places of a longer list
  pub places_push : (passes : K → Bool) (at : ℕ) (xs : List K) (x : K)
      → places_from passes at (xs ++ x ∷ []) ≡ places_from passes at xs ++ at_most (passes x) (at + length xs)
  places_push passes at [] x = ap (at_most (passes x)) (omega arith)
  places_push passes at (y ∷ ys) x =
      let rest = places_push passes (at + 1) ys x ∙ ap (λ n. places_from passes (at + 1) ys ++ at_most (passes x) n) (omega arith) in
      ap (λ r. if passes y then (at ∷ r) else r) rest ∙ in_turn (passes y) at (places_from passes (at + 1) ys) (at_most (passes x) (at + length (y ∷ ys)))

  -- one element, or none
  abbrev one_if_not : Bool → K → List K
  one_if_not b x = if b then [] else (x ∷ [])

  abbrev pub again : (K → K → Bool) → List K → List K → K → Bool
  again same before xs x = list_any (same x) before || list_any (same x) (firsts_after same before xs)

  firsts_push : (same : K → K → Bool) (before xs : List K) (x : K)
      → firsts_after same before (xs ++ x ∷ []) ≡ firsts_after same before xs ++ one_if_not (again same before xs x) x
  firsts_push same before [] x = by_test (list_any (same x) before)
    where
      by_test : (b : Bool) → (if b then [] else (x ∷ [])) ≡ one_if_not (b || false) x
      by_test true = refl
      by_test false = refl
  firsts_push same before (y ∷ ys) x = by_test (firsts_push same before ys x) (firsts_push same (y ∷ before) ys x) (list_any (same y) before)
    where
      fs : List K
      fs = firsts_after same (y ∷ before) ys

      gs : List K
      gs = firsts_after same before ys

      by_test : firsts_after same before (ys ++ x ∷ []) ≡ gs ++ one_if_not (again same before ys x) x
          → firsts_after same (y ∷ before) (ys ++ x ∷ []) ≡ fs ++ one_if_not (again same (y ∷ before) ys x) x
          → (b : Bool) → (if b then firsts_after same before (ys ++ x ∷ []) else (y ∷ firsts_after same (y ∷ before) (ys ++ x ∷ [])))
          ≡ (if b then gs else (y ∷ fs)) ++ one_if_not (list_any (same x) before || list_any (same x) (if b then gs else (y ∷ fs))) x
      by_test g f true = g
      by_test g f false = ap (λ r. y ∷ r) f
          ∙ ap (λ b. y ∷ (fs ++ one_if_not b x)) (moved (same x y) (list_any (same x) before) (list_any (same x) fs))

  -- which of some elements is the first that is the same as one
  abbrev pub number_in : (K → K → Bool) → K → List K → Option ℕ
  number_in same q [] = None
  number_in same q (f ∷ fs) = if same q f then Some 0 else option_map suc (number_in same q fs)

  number_by : (same : K → K → Bool) (q f : K) (fs : List K) (b : Bool) → same q f ≡ b
      → number_in same q (f ∷ fs) ≡ (if b then Some 0 else option_map suc (number_in same q fs))
  number_by same q f fs b e = ap (λ c. if c then Some 0 else option_map suc (number_in same q fs)) e

  number_none : (same : K → K → Bool) (q : K) (fs : List K) → number_in same q fs ≡ None → list_any (same q) fs ≡ false
  number_none same q [] e = refl
  number_none same q (f ∷ fs) e = by_test (number_none same q fs) (same q f) refl
    where
      by_test : (number_in same q fs ≡ None → list_any (same q) fs ≡ false) → (b : Bool) → same q f ≡ b → list_any (same q) (f ∷ fs) ≡ false
      by_test rest true is = absurd (true≢false (ap is_some (sym (number_by same q f fs true is) ∙ e)))
      by_test rest false is = ap (λ c. c || list_any (same q) fs) is ∙ rest (suc_none (number_in same q fs) (sym (number_by same q f fs false is) ∙ e))

  number_some : (same : K → K → Bool) (q : K) (fs : List K) (n : ℕ) → number_in same q fs ≡ Some n → list_any (same q) fs ≡ true
  number_some same q [] n e = absurd (true≢false (ap is_some (sym e)))
  number_some same q (f ∷ fs) n e = elim (found_at (same q f) (number_in same q fs) n e) [
    | inl (is, first) ↦ ap (λ c. c || list_any (same q) fs) is
    | inr (is, m, found, next) ↦ ap (λ c. c || list_any (same q) fs) is ∙ number_some same q fs m found
  ]

  number_below : (same : K → K → Bool) (q : K) (fs : List K) (n : ℕ) → number_in same q fs ≡ Some n → n < length fs
  number_below same q [] n e = absurd (true≢false (ap is_some (sym e)))
  number_below same q (f ∷ fs) n e = elim (found_at (same q f) (number_in same q fs) n e) [
    | inl (is, first) ↦ omega (arith, first)
    | inr (is, m, found, next) ↦ omega (arith, next, number_below same q fs m found)
  ]

  number_absent : (same : K → K → Bool) (q : K) (fs : List K) → list_any (same q) fs ≡ false → number_in same q fs ≡ None
  number_absent same q [] e = refl
  number_absent same q (f ∷ fs) e =
      number_by same q f fs false (or_first (same q f) (list_any (same q) fs) e)
      ∙ ap (option_map suc) (number_absent same q fs (or_second (same q f) (list_any (same q) fs) e))

  number_push : (same : K → K → Bool) (q : K) (fs : List K) (x : K)
      → number_in same q (fs ++ x ∷ []) ≡ or_then (number_in same q fs) (if same q x then Some (length fs) else None)
  number_push same q [] x = refl
  number_push same q (f ∷ fs) x = by_test (number_push same q fs x) (same q f)
    where
      by_test : number_in same q (fs ++ x ∷ []) ≡ or_then (number_in same q fs) (if same q x then Some (length fs) else None)
          → (b : Bool) → (if b then Some 0 else option_map suc (number_in same q (fs ++ x ∷ [])))
          ≡ or_then (if b then Some 0 else option_map suc (number_in same q fs)) (if same q x then Some (length (f ∷ fs)) else None)
      by_test rest true = refl
      by_test rest false = ap (option_map suc) rest
          ∙ or_suc (number_in same q fs) (if same q x then Some (length fs) else None)
          ∙ ap (or_then (option_map suc (number_in same q fs))) (suc_if (same q x) (length fs))

-- ---- the groups

-- the groups of a list, and the number of each element's group
pub record IsAt {K : Type 0} (same : K → K → Bool) (xs : List K) (groups : List (List ℕ)) (number : K → Option ℕ) : Type 0 where
  pub are : groups ≡ groups_of same xs
  pub numbers : (q : K) → number q ≡ number_in same q (firsts_after same [] xs)
  pub apart : IsDistinct same (firsts_after same [] xs)

module _ {K : Type 0} {same : K → K → Bool} (laws : IsEquivalence same) where
  -- elements that aren't the same as x gain no place
  unmoved : (h : K → List ℕ) (x : K) (p : ℕ) (fs : List K) → list_any (same x) fs ≡ false → map (λ f. h f ++ at_most (same f x) p) fs ≡ map h fs
  unmoved h x p [] none = refl
  unmoved h x p (f ∷ fs) none =
      let apart : same f x ≡ false = laws.symm f x ∙ or_first (same x f) (list_any (same x) fs) none in
      ap (λ b. (h f ++ at_most b p) ∷ map (λ g. h g ++ at_most (same g x) p) fs) apart
      ∙ ap (λ ns. ns ∷ map (λ g. h g ++ at_most (same g x) p) fs) (append-nil (h f))
      ∙ ap (λ r. h f ∷ r) (unmoved h x p fs (or_second (same x f) (list_any (same x) fs) none))

  -- of elements that are apart the one that is the same as x gains it
  pub rest_apart : (x f : K) (fs : List K) → same x f ≡ true → AllByRecursion (λ g. same f g ≡ false) fs → list_any (same x) fs ≡ false
  rest_apart x f [] e all = refl
  rest_apart x f (g ∷ gs) e all = ap (λ b. b || list_any (same x) gs) (laws.congr x f g e ∙ all.0) ∙ rest_apart x f gs e all.1

  abbrev Gains : (K → List ℕ) → K → ℕ → List K → ℕ → Type 0
  Gains h x p fs n = map (λ f. h f ++ at_most (same f x) p) fs ≡ set (map h fs) n (get_or (map h fs) n [] ++ p ∷ [])

  gains_here : (h : K → List ℕ) (x : K) (p : ℕ) (f : K) (fs : List K) → IsDistinct same (f ∷ fs) → same x f ≡ true → Gains h x p (f ∷ fs) 0
  gains_here h x p f fs apart e =
      ap (λ b. (h f ++ at_most b p) ∷ map (λ g. h g ++ at_most (same g x) p) fs) (laws.symm f x ∙ e)
      ∙ ap (λ r. (h f ++ p ∷ []) ∷ r) (unmoved h x p fs (rest_apart x f fs e (IsDistinct-head same f fs apart)))

  gains_behind : (h : K → List ℕ) (x : K) (p : ℕ) (f : K) (fs : List K) (m : ℕ) → same x f ≡ false → Gains h x p fs m → Gains h x p (f ∷ fs) (suc m)
  gains_behind h x p f fs m e rest =
      ap (λ b. (h f ++ at_most b p) ∷ map (λ g. h g ++ at_most (same g x) p) fs) (laws.symm f x ∙ e)
      ∙ ap (λ ns. ns ∷ map (λ g. h g ++ at_most (same g x) p) fs) (append-nil (h f))
      ∙ ap (λ r. h f ∷ r) rest

  one_gains : (h : K → List ℕ) (x : K) (p : ℕ) (fs : List K) (n : ℕ) → IsDistinct same fs → number_in same x fs ≡ Some n → Gains h x p fs n
  one_gains h x p [] n apart is = absurd (true≢false (ap is_some (sym is)))
  one_gains h x p (f ∷ fs) n apart is = elim (found_at (same x f) (number_in same x fs) n is) [
    | inl (e, first) ↦ subst (Gains h x p (f ∷ fs)) (sym first) (gains_here h x p f fs apart e)
    | inr (e, m, found, next) ↦ subst (Gains h x p (f ∷ fs)) (sym next) (gains_behind h x p f fs m e (one_gains h x p fs m (IsDistinct-tail same f fs apart) found))
  ]

  no_place_first : (at : ℕ) (y : K) (ys : List K) (x : K) → same x y ≡ false → places_from (same x) at (y ∷ ys) ≡ places_from (same x) (at + 1) ys
  no_place_first at y ys x e = ap (λ b. if b then (at ∷ places_from (same x) (at + 1) ys) else places_from (same x) (at + 1) ys) e

  -- elements that aren't the same as x, neither those before nor those of the list, have no place of it
  pub no_places : (before : List K) (at : ℕ) (xs : List K) (x : K) → again same before xs x ≡ false → places_from (same x) at xs ≡ []
  no_places before at [] x none = refl
  no_places before at (y ∷ ys) x none = elim (cases_Bool (list_any (same y) before)) [
    | inl old ↦
        let rest = subst (λ b. (list_any (same x) before || list_any (same x) (if b then firsts_after same before ys else (y ∷ firsts_after same (y ∷ before) ys))) ≡ false) old none in
        no_place_first at y ys x (not_same old (or_first (list_any (same x) before) (list_any (same x) (firsts_after same before ys)) rest)) ∙ no_places before (at + 1) ys x rest
    | inr new ↦
        let rest = subst (λ b. (list_any (same x) before || list_any (same x) (if b then firsts_after same before ys else (y ∷ firsts_after same (y ∷ before) ys))) ≡ false) new none in
        let again_y = moved (same x y) (list_any (same x) before) (list_any (same x) (firsts_after same (y ∷ before) ys)) ∙ rest in
        no_place_first at y ys x (or_first (same x y) (list_any (same x) before) (or_first (same x y || list_any (same x) before) (list_any (same x) (firsts_after same (y ∷ before) ys)) again_y))
        ∙ no_places (y ∷ before) (at + 1) ys x again_y
  ]
    where
      not_same : list_any (same y) before ≡ true → list_any (same x) before ≡ false → same x y ≡ false
      not_same old none_before = elim (cases_Bool (same x y)) [
        | inl e ↦ absurd (true≢false (sym old ∙ sym (list_any_congr laws x y before e) ∙ none_before))
        | inr e ↦ e
      ]

  groups_push : (xs : List K) (x : K) (b : Bool) → list_any (same x) (firsts_after same [] xs) ≡ b → groups_of same (xs ++ x ∷ [])
      ≡ map (λ f. places_from (same f) 0 xs ++ at_most (same f x) (length xs)) (firsts_after same [] xs ++ one_if_not b x)
  unfolding groups_of
  groups_push xs x b is =
      ap (λ fs. map (λ f. places_from (same f) 0 (xs ++ x ∷ [])) fs) (firsts_push same [] xs x ∙ ap (λ c. firsts_after same [] xs ++ one_if_not c x) is)
      ∙ ap (λ (h : K → List ℕ). map h (firsts_after same [] xs ++ one_if_not b x)) (λ i f. (places_push (same f) 0 xs x ∙ ap (λ n. places_from (same f) 0 xs ++ at_most (same f x) n) (zero-add (length xs))) i)

  pub at_start : (number : K → Option ℕ) → ((q : K) → number q ≡ None) → IsAt same [] [] number
  unfolding groups_of IsDistinct
  at_start number none = record { are = refl; numbers = none; apart = tt }

  module _ {xs : List K} {groups : List (List ℕ)} {number : K → Option ℕ} (x : K) (is : IsAt same xs groups number) where
    -- a group that x has gains the place of x
    pub known : (n : ℕ) → number x ≡ Some n → IsAt same (xs ++ x ∷ []) (set groups n (get_or groups n [] ++ length xs ∷ [])) number
    unfolding groups_of
    known n found =
        let there : number_in same x (firsts_after same [] xs) ≡ Some n = sym (is.numbers x) ∙ found in
        let seen : list_any (same x) (firsts_after same [] xs) ≡ true = number_some same x (firsts_after same [] xs) n there in
        let firsts : firsts_after same [] (xs ++ x ∷ []) ≡ firsts_after same [] xs = firsts_push same [] xs x ∙ ap (λ c. firsts_after same [] xs ++ one_if_not c x) seen ∙ append-nil (firsts_after same [] xs) in
        record {
          are = ap (λ gs. set gs n (get_or gs n [] ++ length xs ∷ [])) is.are
              ∙ sym (one_gains (λ f. places_from (same f) 0 xs) x (length xs) (firsts_after same [] xs) n is.apart there)
              ∙ sym (ap (λ fs. map (λ f. places_from (same f) 0 xs ++ at_most (same f x) (length xs)) fs) (append-nil (firsts_after same [] xs)))
              ∙ sym (groups_push xs x true seen);
          numbers = λ q. is.numbers q ∙ ap (number_in same q) (sym firsts);
          apart = subst (IsDistinct same) (sym firsts) is.apart;
        }

    -- else a group of its own is the next
    pub fresh : (after : K → Option ℕ) → number x ≡ None → ((q : K) → after q ≡ (if same x q then Some (length groups) else number q))
        → IsAt same (xs ++ x ∷ []) (groups ++ (length xs ∷ []) ∷ []) after
    unfolding groups_of
    fresh after found gives =
        let none : list_any (same x) (firsts_after same [] xs) ≡ false = number_none same x (firsts_after same [] xs) (sym (is.numbers x) ∙ found) in
        let firsts : firsts_after same [] (xs ++ x ∷ []) ≡ firsts_after same [] xs ++ x ∷ [] = firsts_push same [] xs x ∙ ap (λ c. firsts_after same [] xs ++ one_if_not c x) none in
        let gains : K → List ℕ = λ f. places_from (same f) 0 xs ++ at_most (same f x) (length xs) in
        let own : gains x ≡ length xs ∷ [] = ap (λ ns. ns ++ at_most (same x x) (length xs)) (no_places [] 0 xs x none) ∙ ap (λ b. at_most b (length xs)) (laws.refl x) in
        record {
          are = ap (λ gs. gs ++ (length xs ∷ []) ∷ []) (is.are ∙ sym (unmoved (λ f. places_from (same f) 0 xs) x (length xs) (firsts_after same [] xs) none))
              ∙ sym (ap (λ g. map gains (firsts_after same [] xs) ++ g ∷ []) own)
              ∙ sym (map-append gains (firsts_after same [] xs) (x ∷ []))
              ∙ sym (groups_push xs x false none);
          numbers = λ q. gives q ∙ number_after none q (same x q) refl ∙ sym (number_push same q (firsts_after same [] xs) x) ∙ ap (number_in same q) (sym firsts);
          apart = subst (IsDistinct same) (sym firsts) (IsDistinct-push laws (firsts_after same [] xs) x is.apart none);
        }
      where
        count : length groups ≡ length (firsts_after same [] xs)
        count = ap length is.are ∙ length-map (firsts_after same [] xs) (λ f. places_from (same f) 0 xs)

        number_after : list_any (same x) (firsts_after same [] xs) ≡ false → (q : K) (b : Bool) → same x q ≡ b → (if b then Some (length groups) else number q)
            ≡ or_then (number_in same q (firsts_after same [] xs)) (if same q x then Some (length (firsts_after same [] xs)) else None)
        number_after none q true e =
            sym (ap (λ b. or_then (number_in same q (firsts_after same [] xs)) (if b then Some (length (firsts_after same [] xs)) else None)) (laws.symm q x ∙ e)
            ∙ ap (λ o. or_then o (Some (length (firsts_after same [] xs)))) (number_absent same q (firsts_after same [] xs) (sym (list_any_congr laws x q (firsts_after same [] xs) e) ∙ none))
            ∙ ap Some (sym count))
        number_after none q false e =
            is.numbers q ∙ sym (ap (λ b. or_then (number_in same q (firsts_after same [] xs)) (if b then Some (length (firsts_after same [] xs)) else None)) (laws.symm q x ∙ e)
            ∙ or_none (number_in same q (firsts_after same [] xs)))

  -- the group that an element has is there
  pub below : {xs : List K} {groups : List (List ℕ)} {number : K → Option ℕ} (x : K) → IsAt same xs groups number → (n : ℕ) → number x ≡ Some n → n < length groups
  unfolding groups_of
  below {xs = xs} x is n found = omega (arith, number_below same x (firsts_after same [] xs) n (sym (is.numbers x) ∙ found), ap length is.are, length-map (firsts_after same [] xs) (λ f. places_from (same f) 0 xs))
