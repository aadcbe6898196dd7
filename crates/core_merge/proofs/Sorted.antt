-- What a sort by starts and ends gives.
use Rattle.std.proofs.Common.{◌≡◌, ℕ, ◌&&◌, ◌||◌, nat_cmp, nat_eq, nat_lt, is_lt, List, arith, subst}
use Rattle.std.specs.Ordering.{ordering_then}
use Rattle.std.specs.declared.cmp.Ordering.{Ordering}
use Rattle.std.proofs.lemmas.Bool.Decides.{nat_tests}
use Rattle.std.specs.List.Sorted.{IsSortedBy, IsSortedByKey, IsStableBy, IsStableByKey}
use Rattle.maps_text.specs.declared.entry.MapsEntry.{MapsEntry}
use Rattle.core_merge.specs.CoreEntries.{stands_before}

lexicographic : (a b c d : ℕ) → is_lt (ordering_then (nat_cmp a c) (nat_cmp b d)) ≡ (nat_lt a c || (nat_eq a c && nat_lt b d))
lexicographic a b c d = grind (arith, nat_tests)

abbrev pub Pair : Type 0
Pair = ℕ × ℕ

abbrev pub pair_cmp : Pair → Pair → Ordering
pair_cmp a b = ordering_then (nat_cmp a.0 b.0) (nat_cmp a.1 b.1)

abbrev pub pair_of : MapsEntry → Pair
pair_of e = (e.range.start, e.range.end)

pub by_pairs : (ys : List MapsEntry) → IsSortedByKey pair_of pair_cmp ys → IsSortedBy stands_before ys
by_pairs ys h = subst (λ lt. IsSortedBy lt ys)
    (λ i x y. lexicographic x.range.start x.range.end y.range.start y.range.end i) h

pub stable_by_pairs : (xs ys : List MapsEntry) → IsStableByKey pair_of pair_cmp xs ys → IsStableBy stands_before xs ys
stable_by_pairs xs ys h = subst (λ lt. IsStableBy lt xs ys)
    (λ i x y. lexicographic x.range.start x.range.end y.range.start y.range.end i) h
