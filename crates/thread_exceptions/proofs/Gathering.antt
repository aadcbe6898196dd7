-- What is found from some addresses on, one after another.
use Rattle.std.proofs.Common.{◌≡◌, ◌≢◌, ℕ, ◌+◌, ◌<◌, ◌≤◌, Bool, true, false, List, [], ◌∷◌, ◌++◌, length, refl, sym}
use Rattle.std.proofs.Common.{◌∙◌, ap}
use Rattle.std.proofs.Common.{arith, append_assoc, append-nil, length-append, nat_eq, get_or, drop, inl, inr, ◌↔◌, ◌⊎◌}
use Rattle.std.specs.Prelude.{◌||◌, nat_le}
use Rattle.std.specs.List.{Contains}
use Rattle.std.proofs.lemmas.Bool.Decides.{nat_tests}
use Rattle.std.proofs.lemmas.List.{drop_more, drop_all}
use Rattle.std.proofs.lemmas.List.Elements.{Contains-append_left, Contains-push, Contains-push_cases}
use Rattle.thread_exceptions.specs.Discovery.{AreSame, add_one, gather}
use Rattle.thread_exceptions.specs.Links.{has}

pub gather_append : (limit : ℕ) (found xs ys : List ℕ)
    → gather limit found (xs ++ ys) ≡ gather limit (gather limit found xs) ys
unfolding gather
gather_append limit found [] ys = refl
gather_append limit found (x ∷ xs) ys = gather_append limit (add_one limit found x) xs ys

-- what was found stays in front, and there is room for what is added
pub record Grows (limit : ℕ) (found more : List ℕ) : Type 0 where
  pub added : List ℕ
  pub is : more ≡ found ++ added
  pub within : length found ≤ limit → length more ≤ limit

pub one_grows : (limit : ℕ) (found : List ℕ) (a : ℕ) → Grows limit found (add_one limit found a)
one_grows limit found a = by (nat_eq a 0) (nat_le limit (length found)) (has found a) refl refl refl
  where
    same : (b : Bool) → (nat_eq a 0 || nat_le limit (length found) || has found a) ≡ true
        → Grows limit found (add_one limit found a)
    same b e = record { added = []; is = rw e (sym (append-nil found)); within = λ le. rw e le }

    by : (z f h : Bool) → nat_eq a 0 ≡ z → nat_le limit (length found) ≡ f → has found a ≡ h
        → Grows limit found (add_one limit found a)
    by true f h ez ef eh = same true (rw ez refl)
    by false true h ez ef eh = same true (rw (ez, ef) refl)
    by false false true ez ef eh = same true (rw (ez, ef, eh) refl)
    by false false false ez ef eh = record {
      added = a ∷ [];
      is = rw (ez, ef, eh) refl;
      within = λ le. rw (ez, ef, eh) (let lt : length found < limit = grind (arith, nat_tests) in omega
          (arith, lt, length-append found (a ∷ [])));
    }

pub gather_grows : (limit : ℕ) (found xs : List ℕ) → Grows limit found (gather limit found xs)
unfolding gather
gather_grows limit found [] = record { added = []; is = sym (append-nil found); within = λ le. le }
gather_grows limit found (x ∷ xs) =
    let one = one_grows limit found x in
    let rest = gather_grows limit (add_one limit found x) xs in
    record {
      added = one.added ++ rest.added;
      is = rest.is ∙ ap (λ f. f ++ rest.added) one.is ∙ append_assoc found one.added rest.added;
      within = λ le. rest.within (one.within le);
    }

-- ---- one address

pub one_zero : (limit : ℕ) (found : List ℕ) (a : ℕ) → a ≡ 0 → found ≡ add_one limit found a
one_zero limit found a z = rw z refl

pub one_full : (limit : ℕ) (found : List ℕ) (a : ℕ) → a ≢ 0 → limit ≤ length found → found ≡ add_one limit found a
one_full limit found a some full =
    let z : nat_eq a 0 ≡ false = grind (arith, nat_tests) in
    let f : nat_le limit (length found) ≡ true = grind (arith, nat_tests) in
    rw (z, f) refl

pub one_met : (limit : ℕ) (found : List ℕ) (a : ℕ) → a ≢ 0 → length found < limit → has found a ≡ true
    → found ≡ add_one limit found a
one_met limit found a some room h =
    let z : nat_eq a 0 ≡ false = grind (arith, nat_tests) in
    let f : nat_le limit (length found) ≡ false = grind (arith, nat_tests) in
    rw (z, f, h) refl

pub one_new : (limit : ℕ) (found : List ℕ) (a : ℕ) → a ≢ 0 → length found < limit → has found a ≡ false
    → found ++ a ∷ [] ≡ add_one limit found a
one_new limit found a some room h =
    let z : nat_eq a 0 ≡ false = grind (arith, nat_tests) in
    let f : nat_le limit (length found) ≡ false = grind (arith, nat_tests) in
    rw (z, f, h) refl

-- a set and a list after one more
pub same_more : (set more found longer : List ℕ) (a : ℕ) → AreSame set found
    → ((b : ℕ) → Contains more b ↔ (Contains set b ⊎ (b ≡ a))) → longer ≡ found ++ a ∷ [] → AreSame more longer
same_more set more found longer a same adds is = rw is (λ b. (
  λ h. elim ((adds b).0 h) [
    | inl e ↦ Contains-append_left found (a ∷ []) b ((same b).0 e)
    | inr e ↦ rw e
        (Contains-push found a)
  ],
  λ h. (adds b).1 (elim (Contains-push_cases found a b h) [ inl e ↦ inl ((same b).1 e) | inr e ↦ inr (sym e) ]),
))

-- ---- each of some addresses

pub gather_next : (limit : ℕ) (found more xs total : List ℕ) (i : ℕ) → i < length xs
    → more ≡ add_one limit found (get_or xs i 0)
    → gather limit found (drop i xs) ≡ total → gather limit more (drop (i + 1) xs) ≡ total
unfolding gather
gather_next limit found more xs total i lt e h =
    ap (λ f. gather limit f (drop (i + 1) xs)) e ∙ sym (ap (gather limit found) (drop_more xs i 0 lt)) ∙ h

pub gather_done : (limit : ℕ) (found xs total : List ℕ) (i : ℕ) → length xs ≤ i
    → gather limit found (drop i xs) ≡ total → found ≡ total
unfolding gather
gather_done limit found xs total i all h = sym (ap (gather limit found) (drop_all i xs all)) ∙ h

pub gather_parts : (limit : ℕ) (f0 f1 f2 f3 xs ys : List ℕ) (a : ℕ) → f1 ≡ add_one limit f0 a → f2 ≡ gather limit f1 xs
    → f3 ≡ gather limit f2 ys → f3 ≡ gather limit f0 (a ∷ (xs ++ ys))
unfolding gather
gather_parts limit f0 f1 f2 f3 xs ys a e1 e2 e3 =
    e3 ∙ ap (λ f. gather limit f ys) e2 ∙ sym (gather_append limit f1 xs ys) ∙ ap (λ f. gather limit f (xs ++ ys)) e1
