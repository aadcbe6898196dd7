-- Sorted keys are in the order of preference.
use Rattle.std.proofs.Common.{◌≡◌, ◌⊎◌, ℕ, ◌<◌, ◌≤◌, true, false, List, get_or, inl, inr, sym, ap, ◌∙◌, arith}
use Rattle.std.specs.Ordering.{is_lt, nat_cmp, ordering_then}
use Rattle.std.specs.Cmp.{nat_cmp_is}
use Rattle.std.specs.declared.cmp.Ordering.{Ordering}
use Rattle.std.specs.declared.cmp.Ordering.TheVariants.{Less, Equal}
use Rattle.std.specs.List.Sorted.{IsSorted}
use Rattle.std.proofs.lemmas.Bool.{cases_lt}
use Rattle.std.proofs.lemmas.Map.Keys.{ge_from_not_lt}
use Rattle.std.proofs.lemmas.List.Sorted.{sorted_far, ranks_by}
use Rattle.covering_symbols.specs.contracts.function_key.FunctionKeyOrd.TheImpl.Laws.{total-law}
use Rattle.covering_symbols.specs.declared.function_key.FunctionKey.{FunctionKey}
use Rattle.covering_symbols.specs.KeyOrder.{ComesFirst, IsInOrder}

less_then : (a b : ℕ) (o : Ordering) → is_lt (ordering_then (nat_cmp b a) o) ≡ false → (a < b) ⊎ ((a ≡ b) × (is_lt o ≡ false))
less_then a b o h = by (cases_lt a b) (cases_lt b a)
  where
    by : (a < b) ⊎ (b ≤ a) → (b < a) ⊎ (a ≤ b) → (a < b) ⊎ ((a ≡ b) × (is_lt o ≡ false))
    by (inl lt) q = inl lt
    by (inr ge) (inl lt) = let both : true ≡ false = ap (λ r. is_lt (ordering_then r o)) (nat_cmp_is b a Less lt) ∙ h in cc
    by (inr ge) (inr le) =
        let e : a ≡ b = omega arith in
        inr (e, ap (λ r. is_lt (ordering_then r o)) (nat_cmp_is b a Equal (sym e)) ∙ h)

first_by : (k l : FunctionKey)
    → is_lt (ordering_then (nat_cmp l.below k.below) (ordering_then (nat_cmp l.size k.size) (nat_cmp l.number k.number))) ≡ false
    → ComesFirst k l
first_by k l h = by (less_then k.below l.below (ordering_then (nat_cmp l.size k.size) (nat_cmp l.number k.number)) h)
  where
    by_size : (k.size < l.size) ⊎ ((k.size ≡ l.size) × (is_lt (nat_cmp l.number k.number) ≡ false))
        → (k.size < l.size) ⊎ ((k.size ≡ l.size) × (k.number ≤ l.number))
    by_size (inl lt) = inl lt
    by_size (inr p) = inr (p.0, ge_from_not_lt l.number k.number p.1)

    by : (k.below < l.below) ⊎ ((k.below ≡ l.below) × (is_lt (ordering_then (nat_cmp l.size k.size) (nat_cmp l.number k.number)) ≡ false))
        → ComesFirst k l
    by (inl lt) = inl lt
    by (inr p) = inr (p.0, by_size (less_then k.size l.size (nat_cmp l.number k.number) p.1))

abbrev key_cmp : FunctionKey → FunctionKey → Ordering
key_cmp l k = ordering_then (nat_cmp l.below k.below) (ordering_then (nat_cmp l.size k.size) (nat_cmp l.number k.number))

pub in_order : (keys : List FunctionKey) → IsSorted key_cmp keys → IsInOrder keys
in_order keys s = λ i j d le lt. first_by (get_or keys i d) (get_or keys j d)
    (sorted_far (λ x y. is_lt (key_cmp x y)) (ranks_by total-law (λ k. k)) keys s i j d le lt)
