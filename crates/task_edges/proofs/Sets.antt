-- What the kit's tree set holds, by `Contains`, and after one more.
use Rattle.std.proofs.Common.{ℕ, ◌≡◌, ◌⊎◌, ◌↔◌, refl, sym, ap, ◌∙◌, Bool, true, false, cond, inl, inr, IsTrue}
use Rattle.std.specs.BTreeSet as sorted
use Rattle.std.specs.BTreeMap.{is_at}
use Rattle.std.specs.BTreeSet.{BTreeSet}
use Rattle.std.specs.Cmp.{Equal-is, nat_cmp_is}
use Rattle.std.specs.List.{Contains}
use Rattle.std.specs.Ordering.{nat_cmp}
use Rattle.std.specs.declared.cmp.Ordering.TheVariants.{Equal}
use Rattle.std.proofs.lemmas.Cmp.{nat_cmp_total}
use Rattle.std.proofs.lemmas.Map.Lookups.{exact_unsigned}
use Rattle.std.proofs.lemmas.Map.Views.{btree_set_contains_iff}

pub at_same : (k q : ℕ) → is_at (nat_cmp k) q ≡ true → q ≡ k
at_same k q h = sym (exact_unsigned k q ((Equal-is (nat_cmp k q)).0 h))

pub at_itself : (k q : ℕ) → q ≡ k → is_at (nat_cmp k) q ≡ true
at_itself k q h = (Equal-is (nat_cmp k q)).1 (sym (nat_cmp_is k q Equal (sym h)))

pub at_other : (k q : ℕ) → (q ≡ k → ⊥) → is_at (nat_cmp k) q ≡ false
at_other k q ne = by (is_at (nat_cmp k) q) refl
  where
    by : (b : Bool) → is_at (nat_cmp k) q ≡ b → b ≡ false
    by true e = absurd (ne (at_same k q e))
    by false e = refl

either : (b c : Bool) → cond b true c ≡ true → (b ≡ true) ⊎ (c ≡ true)
either true c h = inl refl
either false c h = inr h

or_left : (b c : Bool) → b ≡ true → cond b true c ≡ true
or_left b c h = ap (λ x. cond x true c) h

or_right : (b c : Bool) → c ≡ true → cond b true c ≡ true
or_right true c h = refl
or_right false c h = h

pub has_set : (s : BTreeSet ℕ) (q : ℕ) → IsTrue (sorted.contains nat_cmp s q) ↔ Contains s.keys q
has_set s q = btree_set_contains_iff nat_cmp_total exact_unsigned s q

-- a set after `insert`
pub set_added : (s n : BTreeSet ℕ) (k : ℕ) → sorted.Updates nat_cmp s n k true → (q : ℕ)
    → Contains n.keys q ↔ (Contains s.keys q ⊎ (q ≡ k))
set_added s n k u q = (
  λ h. elim (either (is_at (nat_cmp k) q) (sorted.contains nat_cmp s q) (sym (u.0 q) ∙ (has_set n q).1 h)) [
    | inl e ↦ inr (at_same k q e)
    | inr e ↦ inl ((has_set s q).0 e)
  ],
  λ h. (has_set n q).0 (u.0 q ∙ elim h [
    | inl e ↦ or_right _ _ ((has_set s q).1 e)
    | inr e ↦ or_left _ _ (at_itself k q e)
  ]),
)
