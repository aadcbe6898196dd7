-- A search for what leads to an object, one object after another.
use Rattle.std.proofs.Common.{◌≡◌, ◌≢◌, ℕ, ◌+◌, ◌<◌, ◌≤◌, ◌⊎◌, ◌↔◌, List, [], ◌∷◌, ◌++◌, length, take, get_or, refl}
use Rattle.std.proofs.Common.{sym, ◌∙◌, ap, arith, inl, inr, subst, length-append, nat_eq}
use Rattle.std.specs.Cmp.{nat_eq_equiv}
use Rattle.std.specs.List.{AllPairs, Contains, IsDistinct}
use Rattle.std.proofs.lemmas.Bool.Decides.{Decides-eqb}
use Rattle.std.proofs.lemmas.List.{take_all, take_more, take-append-le}
use Rattle.std.proofs.lemmas.List.Elements.{All-contains, Contains-get_or, Contains-push_cases}
use Rattle.std.proofs.lemmas.List.Elements.{All-contains_itself, All-weaker}
use Rattle.std.proofs.lemmas.Map.Made.{IsDistinct-from_AllPairs, length-le_from_is_member}
use Rattle.std.proofs.lemmas.Map.Views.{Contains-from_any, exact_unsigned_eq, list_any-from_Contains}
use Rattle.task_edges.specs.Leading.{AddsTo, Leads, LeadsTo, Passes}

none_in : (a : ℕ) → Contains [] a → ⊥
none_in a h = omega (arith, h.1)

one_in : (x a : ℕ) → Contains (x ∷ []) a → a ≡ x
one_in x a h = elim (Contains-push_cases [] x a h) [ inl e ↦ absurd (none_in a e) | inr e ↦ sym e ]

-- what was found so far, of which the first ones were looked behind
pub record Searching (direct : ℕ → List ℕ) (target limit : ℕ) (list : List ℕ) (number : ℕ) (met : List ℕ) : Type 0 where
  pub within : number ≤ length list
  pub most : number ≤ limit
  pub distinct : AllPairs (λ x y. x ≢ y) list
  pub leads : (a : ℕ) → Contains list a → LeadsTo direct a target
  pub first : Contains list target
  pub closed : (a b : ℕ) → Contains (take number list) b → Contains (direct b) a → Contains list a
  pub same : (a : ℕ) → Contains met a ↔ Contains list a

pub searching_init : (direct : ℕ → List ℕ) (target limit : ℕ) (list met : List ℕ) → list ≡ target ∷ []
    → ((a : ℕ) → Contains met a ↔ Contains list a) → Searching direct target limit list 0 met
searching_init direct target limit list met is same = record {
  within = omega arith;
  most = omega arith;
  distinct = subst (λ (xs : List ℕ). AllPairs (λ x y. x ≢ y) xs) (sym is)
      (λ i j d lt within. absurd (omega (arith, lt, within)));
  leads = λ a h. ([], one_in target a (subst (λ xs. Contains xs a) is h));
  first = subst (λ xs. Contains xs target) (sym is) (0, omega arith, refl);
  closed = λ a b h k. absurd (none_in b h);
  same = same;
}

module _ {direct : ℕ → List ℕ} {target limit : ℕ} {list : List ℕ} {number : ℕ} {met : List ℕ} where
  -- one more was looked behind
  pub searching_more : (new more : List ℕ) → Searching direct target limit list number met → number < length list
      → number ≢ limit → AddsTo list (direct (get_or list number 0)) new
      → ((a : ℕ) → Contains more a ↔ Contains new a) → Searching direct target limit new (number + 1) more
  searching_more new more k lt some adds same =
      let at = get_or list number 0 in
      let there : Contains list at = Contains-get_or list number 0 lt in
      let longer : length new ≡ length list + length adds.rest =
      ap length adds.front ∙ length-append list adds.rest in
      let shown : take (number + 1) new ≡ take number list ++ at ∷ [] =
      ap (take (number + 1)) adds.front ∙ take-append-le (number + 1) list adds.rest (omega (arith, lt))
      ∙ take_more list number 0 lt in
      record {
        within = omega (arith, lt, longer);
        most = omega (arith, k.most, some);
        distinct = adds.distinct k.distinct;
        leads = λ a h. elim ((adds.same a).0 h) [
          | inl e ↦ k.leads a e
          | inr e ↦ let rest = k.leads at there in (at ∷ rest.0, (e, rest.1))
        ];
        first = (adds.same target).1 (inl k.first);
        closed = λ a b h d. elim (Contains-push_cases (take number list) at b (subst (λ xs. Contains xs b) shown h)) [
          | inl e ↦ (adds.same a).1 (inl (k.closed a b e d))
          | inr e ↦ (adds.same a).1 (inr (subst (λ q. Contains (direct q) a) (sym e) d))
        ];
        same = same;
      }

  -- all that leads to the object is there, once each was looked behind
  pub searching_all : Searching direct target limit list number met → length list ≤ number → (via : List ℕ) (a : ℕ)
      → Leads direct a via target → Contains list a
  searching_all k all [] a h = subst (Contains list) (sym h) k.first
  searching_all k all (next ∷ via) a h =
      let there = searching_all k all via next h.1 in
      k.closed a next (subst (λ xs. Contains xs next) (sym (take_all number list all)) there) h.0

  pub searching_done : Searching direct target limit list number met → length list ≤ number
      → ((a : ℕ) → Contains met a ↔ LeadsTo direct a target) × (Passes direct limit target → ⊥)
  searching_done k all = (
    λ a. (λ h. k.leads a ((k.same a).0 h), λ h. (k.same a).1 (searching_all k all h.0 a h.1)),
    λ p.
        let distinct : IsDistinct nat_eq p.list = IsDistinct-from_AllPairs Decides-eqb p.list p.distinct in
        let inside : (q : ℕ) → Contains p.list q → Contains list q = λ q h.
        let l = All-contains (λ a. LeadsTo direct a target) p.list q p.leads h in searching_all k all l.0 q l.1 in
        let few = length-le_from_is_member nat_eq_equiv p.list list distinct (λ q h.
        list_any-from_Contains nat_eq_equiv q list (inside q (Contains-from_any exact_unsigned_eq q p.list h))) in
        omega (arith, few, p.more, k.most, all),
  )

  pub searching_over : Searching direct target limit list number met → number < length list → number ≡ limit
      → Passes direct limit target
  searching_over k lt full = record {
    list = list;
    distinct = k.distinct;
    leads = All-weaker (Contains list) (λ a. LeadsTo direct a target) k.leads list (All-contains_itself list);
    more = omega (arith, lt, full);
  }

-- one object is met at first
pub first_same : (target : ℕ) (old more list : List ℕ) → old ≡ [] → list ≡ target ∷ []
    → ((a : ℕ) → Contains more a ↔ (Contains old a ⊎ (a ≡ target))) → (a : ℕ) → Contains more a ↔ Contains list a
first_same target old more list none is adds a = (
  λ h. elim ((adds a).0 h) [
    | inl e ↦ absurd (none_in a (subst (λ xs. Contains xs a) none e))
    | inr e ↦ subst (λ xs. Contains xs a) (sym is) (subst (Contains (target ∷ [])) (sym e) (0, omega arith, refl))
  ],
  λ h. (adds a).1 (inr (one_in target a (subst (λ xs. Contains xs a) is h))),
)
