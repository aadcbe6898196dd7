-- What is kept by the names of files, as a finite map: what std's map answers and inserts.
use Rattle.std.proofs.Common.{◌≡◌, Bool, true, false, List, [], ◌∷◌, length, refl, sym, ap, subst, ◌∙◌, cond}
use Rattle.std.specs.Prelude.{◌&&◌, Option, Some, None, T, encode_utf8_all, option_map}
use Rattle.std.specs.FinMap as finite
use Rattle.std.specs.FinMap.{find, is_sorted, put}
use Rattle.std.specs.FinMap.Entries.{below_all, by_order}
use Rattle.std.specs.BTreeMap.{insert_entry, is_at}
use Rattle.std.specs.Borrow.{Bor}
use Rattle.std.specs.Cmp.{IsTotalOrder, on_total}
use Rattle.std.specs.Cmp.Lexicographic.{nat_list_cmp_total}
use Rattle.std.specs.List.{AllByRecursion}
use Rattle.std.specs.List.Sorted.{IsStrictlySortedBy}
use Rattle.std.specs.Map.{lookup, keys_of}
use Rattle.std.specs.Option.{option_copied}
use Rattle.std.specs.Ordering.{is_lt, match_ordering}
use Rattle.std.specs.declared.cmp.Ordering.{Ordering}
use Rattle.std.specs.declared.cmp.Ordering.TheVariants.{Less, Equal, Greater}
use Rattle.std.proofs.lemmas.Map.Keys.{sorted_head, sorted_tail}
use Rattle.native_merge.specs.KeptMaps.{file_order}

pub file_order_total : IsTotalOrder file_order
file_order_total = on_total encode_utf8_all nat_list_cmp_total

pub copied_is : {X : Type 0} (r : Option (Bor X)) → option_map (λ x. x.now) r ≡ option_copied r
copied_is None = refl
copied_is (Some x) = refl

both : (a b : Bool) → T a → T b → T (a && b)
both true b p q = q
both false b p q = absurd p

module _ {K X : Type 0} (R : K → K → Ordering) where
  find_is : (q : K) (es : List (K × X)) → find R q es ≡ lookup (is_at (R q)) es
  find_is q [] = refl
  find_is q (e ∷ es) = ap (cond (is_at (R q) e.0) (Some e.1)) (find_is q es)

  put_is : (k : K) (v : X) (es : List (K × X)) → insert_entry R es k v ≡ put R k v es
  put_is k v [] = refl
  put_is k v (e ∷ es) = elim (R k e.0) as (λ o. match_ordering o ((k, v) ∷ e ∷ es) ((e.0, v) ∷ es) (e ∷ insert_entry R es k v) ≡ by_order o ((k, v) ∷ e ∷ es) ((e.0, v) ∷ es) (e ∷ put R k v es)) [
    | Less ↦ refl
    | Equal ↦ refl
    | Greater ↦ ap (λ rest. e ∷ rest) (put_is k v es)
  ]

  below_is : (x : K) (es : List (K × X)) → AllByRecursion (λ y. R x y ≡ Less) (keys_of es) → T (below_all R x es)
  below_is x [] all = tt
  below_is x (e ∷ es) all = both (is_lt (R x e.0)) (below_all R x es) (subst (λ o. T (is_lt o)) (sym all.0) tt) (below_is x es all.1)

  pub sorted_is : (es : List (K × X)) → IsStrictlySortedBy R (keys_of es) → T (is_sorted R es)
  sorted_is [] sorted = tt
  sorted_is (e ∷ es) sorted =
      both (below_all R e.0 es) (is_sorted R es) (below_is e.0 es (sorted_head R e.0 (keys_of es) sorted)) (sorted_is es (sorted_tail R e.0 (keys_of es) sorted))

  -- the map of entries in order has at a key what a search among them finds
  pub found_in : (es : List (K × X)) (q : K) → IsStrictlySortedBy R (keys_of es) → finite.get (finite.from_sorted {R = R} es) q ≡ lookup (is_at (R q)) es
  found_in es q sorted = finite.get-from_sorted R es q (sorted_is es sorted) ∙ find_is q es

  -- an entry more in its place is an entry more of the map
  pub inserted_in : IsTotalOrder R → (es new : List (K × X)) (k : K) (v : X) → IsStrictlySortedBy R (keys_of es) → IsStrictlySortedBy R (keys_of new)
      → new ≡ insert_entry R es k v → finite.from_sorted {R = R} new ≡ finite.insert (finite.from_sorted es) k v
  inserted_in o es new k v sorted sorted_new is = finite.same_entries_map _ _
      (finite.entries-from_sorted R new (sorted_is new sorted_new) ∙ is ∙ put_is k v es
      ∙ sym (finite.entries-insert o (finite.from_sorted es) k v ∙ ap (put R k v) (finite.entries-from_sorted R es (sorted_is es sorted))))

  -- no entries are the empty map
  pub nothing_in : (es : List (K × X)) → es ≡ [] → finite.from_sorted {R = R} es ≡ finite.empty
  nothing_in es is = ap finite.from_sorted is ∙ finite.empty_of_len (finite.from_sorted []) (finite.len-entries (finite.from_sorted []) ∙ ap length (finite.entries-from_sorted R [] tt))
