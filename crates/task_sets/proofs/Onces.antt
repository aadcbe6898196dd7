-- Each of some addresses once, one after another.
use Rattle.std.proofs.Common.{◌≡◌, ℕ, ◌+◌, ◌<◌, ◌⊎◌, ◌↔◌, true, false, cond, List, [], ◌∷◌, ◌++◌, length, drop, get_or}
use Rattle.std.proofs.Common.{refl, sym, ◌∙◌, ap, append_assoc, append-nil, drop-cons, add-one, inl, inr}
use Rattle.std.specs.BTreeSet.{BTreeSet, contains}
use Rattle.std.specs.List.{Contains}
use Rattle.std.specs.Ordering.{nat_cmp}
use Rattle.std.proofs.lemmas.List.Elements.{Contains-append_left, Contains-push, Contains-push_cases}
use Rattle.py_coroutines.specs.Awaits.{has}
use Rattle.py_coroutines.proofs.Repeats.{contains_has, has_no}
use Rattle.py_coroutines.proofs.Sorted.{has_set}
use Rattle.task_sets.specs.Once.{firsts}

next : (xs : List ℕ) (i : ℕ) → i < length xs → drop i xs ≡ get_or xs i 0 ∷ drop (i + 1) xs
next xs i lt = drop-cons xs i 0 lt ∙ ap (λ j. get_or xs i 0 ∷ drop j xs) (sym (add-one i))

firsts_met : (met : List ℕ) (x : ℕ) (xs : List ℕ) → has met x ≡ true → firsts met (x ∷ xs) ≡ firsts met xs
unfolding firsts
firsts_met met x xs e = ap (λ b. cond b (firsts met xs) (x ∷ firsts (met ++ x ∷ []) xs)) e

firsts_new : (met : List ℕ) (x : ℕ) (xs : List ℕ) → has met x ≡ false
    → firsts met (x ∷ xs) ≡ x ∷ firsts (met ++ x ∷ []) xs
unfolding firsts
firsts_new met x xs e = ap (λ b. cond b (firsts met xs) (x ∷ firsts (met ++ x ∷ []) xs)) e

firsts_none : (met : List ℕ) → firsts met [] ≡ []
unfolding firsts
firsts_none met = refl

rest_none : (ys : List ℕ) (j : ℕ) → length ys ≡ j → drop j ys ≡ []
rest_none [] j e = rw (sym e) refl
rest_none (y ∷ ys) j e = rw (sym e) (rest_none ys (length ys) refl)

-- these were met so far, and are kept
pub record Keeping (xs : List ℕ) (i : ℕ) (list met : List ℕ) : Type 0 where
  pub same : (a : ℕ) → Contains met a ↔ Contains list a
  pub rest : list ++ firsts list (drop i xs) ≡ firsts [] xs

pub keeping_init : (xs met : List ℕ) → met ≡ [] → Keeping xs 0 [] met
keeping_init xs met none = record { same = λ a. rw none ((λ h. h), (λ h. h)); rest = refl }

module _ {xs : List ℕ} {i : ℕ} {list met : List ℕ} where
  pub keeping_new : (more : List ℕ) → Keeping xs i list met → i < length xs → has list (get_or xs i 0) ≡ false
      → ((a : ℕ) → Contains more a ↔ (Contains met a ⊎ (a ≡ get_or xs i 0)))
      → Keeping xs (i + 1) (list ++ get_or xs i 0 ∷ []) more
  keeping_new more k lt new adds =
      let x = get_or xs i 0 in
      record {
        same = λ a. (
          λ h. elim ((adds a).0 h) [
            | inl e ↦ Contains-append_left list (x ∷ []) a ((k.same a).0 e)
            | inr e ↦ rw e
                (Contains-push list x)
          ],
          λ h. (adds a).1 (elim (Contains-push_cases list x a h) [
            | inl e ↦ inl ((k.same a).1 e)
            | inr e ↦ inr (sym
                e)
          ]),
        );
        rest = append_assoc list (x ∷ []) (firsts (list ++ x ∷ []) (drop (i + 1) xs))
            ∙ ap (λ ys. list ++ ys) (sym (ap (firsts list) (next xs i lt) ∙ firsts_new list x (drop (i + 1) xs) new))
            ∙ k.rest;
      }

  pub keeping_met : Keeping xs i list met → i < length xs → has list (get_or xs i 0) ≡ true
      → Keeping xs (i + 1) list met
  keeping_met k lt there = record {
    same = k.same;
    rest = ap (λ ys. list ++ ys)
        (sym (ap (firsts list) (next xs i lt) ∙ firsts_met list (get_or xs i 0) (drop (i + 1) xs) there)) ∙ k.rest;
  }

  pub keeping_done : Keeping xs i list met → length xs ≡ i → list ≡ firsts [] xs
  keeping_done k all =
      sym (append-nil list) ∙ ap (λ ys. list ++ ys) (sym (firsts_none list))
      ∙ ap (λ ys. list ++ firsts list ys) (sym (rest_none xs i all)) ∙ k.rest

module _ {xs : List ℕ} {i : ℕ} {list : List ℕ} where
  -- the set says whether an address was met
  pub known_met : (s : BTreeSet ℕ) (a : ℕ) → Keeping xs i list s.keys → contains nat_cmp s a ≡ true → has list a ≡ true
  known_met s a k e = contains_has list a ((k.same a).0 ((has_set s a).0 e))

  pub known_new : (s : BTreeSet ℕ) (a : ℕ) → Keeping xs i list s.keys → contains nat_cmp s a ≡ false
      → has list a ≡ false
  known_new s a k e = has_no list a (λ h. let t = (has_set s a).1 ((k.same a).1 h) in cc)
