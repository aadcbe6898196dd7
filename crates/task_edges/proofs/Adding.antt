-- Addresses that come in, one after another.
use Rattle.std.proofs.Common.{◌≡◌, ◌≢◌, ℕ, ◌+◌, ◌<◌, ◌⊎◌, ◌↔◌, Bool, true, false, List, [], ◌∷◌, ◌++◌, length, take}
use Rattle.std.proofs.Common.{get_or, refl, sym, ◌∙◌, ap, arith, append-nil, append_assoc, inl, inr, subst, nat_eq}
use Rattle.std.specs.Prelude.{Result, Ok, Err, OnOk}
use Rattle.std.specs.BTreeSet.{BTreeSet, contains}
use Rattle.std.specs.Cmp.{nat_eq_equiv}
use Rattle.std.specs.List.{Contains, list_any}
use Rattle.std.specs.Ordering.{nat_cmp}
use Rattle.std.proofs.lemmas.List.{take_more}
use Rattle.std.proofs.lemmas.List.Elements.{Contains-append_left, Contains-push, Contains-push_cases, Contains-get_or}
use Rattle.std.proofs.lemmas.List.Quantifiers.{all_pairs_push}
use Rattle.std.proofs.lemmas.Map.Views.{Contains-from_any, exact_unsigned_eq, list_any-from_Contains}
use Rattle.task_edges.specs.Leading.{AddsTo, Expands, before}
use Rattle.task_edges.proofs.Sets.{has_set}

none_in : (a : ℕ) → Contains [] a → ⊥
none_in a h = omega (arith, h.1)

-- nothing comes in
pub adds_none : (old : List ℕ) → AddsTo old [] old
adds_none old = record {
  rest = [];
  front = sym (append-nil old);
  same = λ a. (λ h. inl h, λ h. elim h [ inl e ↦ e | inr e ↦ absurd (none_in a e) ]);
  distinct = λ h. h;
}

-- one comes in that is there
pub adds_met : (old xs list : List ℕ) (x : ℕ) → AddsTo old xs list → Contains list x → AddsTo old (xs ++ x ∷ []) list
adds_met old xs list x h met = record {
  rest = h.rest;
  front = h.front;
  same = λ a. (
    λ k. elim ((h.same a).0 k) [ inl e ↦ inl e | inr e ↦ inr (Contains-append_left xs (x ∷ []) a e) ],
    λ k. elim k [
      | inl e ↦ (h.same a).1 (inl e)
      | inr e ↦ elim (Contains-push_cases xs x a e) [
        | inl o ↦ (h.same a).1 (inr o)
        | inr o ↦ subst (Contains list) o met
      ]
    ],
  );
  distinct = h.distinct;
}

-- one comes in that isn't there
pub adds_new : (old xs list : List ℕ) (x : ℕ) → AddsTo old xs list → (Contains list x → ⊥)
    → AddsTo old (xs ++ x ∷ []) (list ++ x ∷ [])
adds_new old xs list x h new = record {
  rest = h.rest ++ x ∷ [];
  front = ap (λ ys. ys ++ x ∷ []) h.front ∙ append_assoc old h.rest (x ∷ []);
  same = λ a. (
    λ k. elim (Contains-push_cases list x a k) [
      | inl e ↦ elim ((h.same a).0 e) [ inl o ↦ inl o | inr o ↦ inr (Contains-append_left xs (x ∷ []) a o) ]
      | inr e ↦ inr (subst (Contains (xs ++ x ∷ [])) e (Contains-push xs x))
    ],
    λ k. elim k [
      | inl e ↦ Contains-append_left list (x ∷ []) a ((h.same a).1 (inl e))
      | inr e ↦ elim (Contains-push_cases xs x a e) [
        | inl o ↦ Contains-append_left list (x ∷ []) a ((h.same a).1 (inr o))
        | inr o ↦ subst (Contains (list ++ x ∷ [])) o (Contains-push list x)
      ]
    ],
  );
  distinct = λ d. all_pairs_push (λ p q. p ≢ q) list x (h.distinct d)
      (λ k z lt e. new (subst (Contains list) e (Contains-get_or list k z lt)));
}

-- the addresses so far, where the set has what the list has
pub record Adding (old addresses : List ℕ) (i : ℕ) (list met : List ℕ) : Type 0 where
  pub same : (a : ℕ) → Contains met a ↔ Contains list a
  pub adds : AddsTo old (take i addresses) list

pub adding_init : (old addresses met : List ℕ) → ((a : ℕ) → Contains met a ↔ Contains old a)
    → Adding old addresses 0 old met
adding_init old addresses met same = record { same = same; adds = adds_none old }

-- a set with one more has what the list with one more has
pub same_more : (met list more : List ℕ) (x : ℕ) → ((a : ℕ) → Contains met a ↔ Contains list a)
    → ((a : ℕ) → Contains more a ↔ (Contains met a ⊎ (a ≡ x)))
    → (a : ℕ) → Contains more a ↔ Contains (list ++ x ∷ []) a
same_more met list more x same adds a = (
  λ h. elim ((adds a).0 h) [
    | inl e ↦ Contains-append_left list (x ∷ []) a ((same a).0 e)
    | inr e ↦ subst (Contains (list ++ x ∷ [])) (sym e) (Contains-push list x)
  ],
  λ h. (adds a).1 (elim (Contains-push_cases list x a h) [ inl e ↦ inl ((same a).1 e) | inr e ↦ inr (sym e) ]),
)

module _ {old addresses : List ℕ} {i : ℕ} {list : List ℕ} where
  pub adding_met : (s : BTreeSet ℕ) → Adding old addresses i list s.keys → i < length addresses
      → contains nat_cmp s (get_or addresses i 0) ≡ true → Adding old addresses (i + 1) list s.keys
  adding_met s k lt met =
      let x = get_or addresses i 0 in
      let there : Contains list x = (k.same x).0 ((has_set s x).0 met) in
      record {
        same = k.same;
        adds = subst (λ xs. AddsTo old xs list) (sym (take_more addresses i 0 lt))
            (adds_met old (take i addresses) list x k.adds there);
      }

  pub adding_new : (s : BTreeSet ℕ) (more : List ℕ) → Adding old addresses i list s.keys → i < length addresses
      → contains nat_cmp s (get_or addresses i 0) ≡ false
      → ((a : ℕ) → Contains more a ↔ (Contains s.keys a ⊎ (a ≡ get_or addresses i 0)))
      → Adding old addresses (i + 1) (list ++ get_or addresses i 0 ∷ []) more
  adding_new s more k lt new adds =
      let x = get_or addresses i 0 in
      let absent : Contains list x → ⊥ = λ h. let t = (has_set s x).1 ((k.same x).1 h) in cc in
      record {
        same = same_more s.keys list more x k.same adds;
        adds = subst (λ xs. AddsTo old xs (list ++ x ∷ [])) (sym (take_more addresses i 0 lt))
            (adds_new old (take i addresses) list x k.adds absent);
      }

-- ---- what leads to an object directly

list_any_false : (a : ℕ) (xs : List ℕ) → (Contains xs a → ⊥) → list_any (nat_eq a) xs ≡ false
list_any_false a xs never = by (list_any (nat_eq a) xs) refl
  where
    by : (b : Bool) → list_any (nat_eq a) xs ≡ b → b ≡ false
    by true e = absurd (never (Contains-from_any exact_unsigned_eq a xs e))
    by false e = refl

pub before_task : (sources : ℕ → List ℕ) (tasks : List ℕ) (a : ℕ) → Contains tasks a → before sources tasks a ≡ []
before_task sources tasks a h = rw (list_any-from_Contains nat_eq_equiv a tasks h) refl

pub before_other : (sources : ℕ → List ℕ) (tasks : List ℕ) (a : ℕ) → (Contains tasks a → ⊥)
    → before sources tasks a ≡ sources a
before_other sources tasks a h = rw (list_any_false a tasks h) refl

pub expands_task : (sources : ℕ → List ℕ) (tasks old : List ℕ) (a : ℕ) → Contains tasks a
    → Expands sources tasks a old old
expands_task sources tasks old a h = subst (λ xs. AddsTo old xs old) (sym (before_task sources tasks a h)) (adds_none old)

pub expands_other : (sources : ℕ → List ℕ) (tasks old new : List ℕ) (a : ℕ) (xs : List ℕ) → (Contains tasks a → ⊥)
    → xs ≡ sources a → AddsTo old xs new → Expands sources tasks a old new
expands_other sources tasks old new a xs h e adds =
    subst (λ ys. AddsTo old ys new) (e ∙ sym (before_other sources tasks a h)) adds

pub expands_on_ok : {T E : Type 0} (sources : ℕ → List ℕ) (tasks old new : List ℕ) (a : ℕ) (xs : List ℕ)
    → (Contains tasks a → ⊥) → xs ≡ sources a → (r : Result T E) → OnOk r (AddsTo old xs new)
    → OnOk r (Expands sources tasks a old new)
expands_on_ok sources tasks old new a xs h e (Ok v) adds = expands_other sources tasks old new a xs h e adds
expands_on_ok sources tasks old new a xs h e (Err x) adds = tt
