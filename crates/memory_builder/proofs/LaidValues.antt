-- What the code writes of a list.
use Rattle.std.proofs.Common.{◌≡◌, ◌∙◌, ◌*◌, ℕ, List, [], ◌∷◌, ◌++◌, length, refl, sym, ap, subst, append_assoc}
use Rattle.std.specs.Prelude.{IfOk, Result}
use Rattle.std.specs.List.{flat_map}
use Rattle.py_fields.specs.declared.layout.Layout.{Layout}
use Rattle.memory_builder.specs.Chains.{addresses_from}
use Rattle.object_builder.specs.Objects.{Write, aligned, object}
use Rattle.object_builder.specs.Objects.Value.{U64}
use Rattle.memory_builder.specs.Program.{Item}
use Rattle.memory_builder.specs.Program.Held.{Items}
use Rattle.memory_builder.specs.Sizes.{item_size, list_len}
use Rattle.memory_builder.specs.Values.{address_array, first_item, items_place, laid_item, laid_value, list_writes}
use Rattle.memory_builder.specs.declared.values.TypesAt.{TypesAt}
use Rattle.memory_builder.proofs.Chains.{length-places}
use Rattle.memory_builder.proofs.Growing.{all_flat}
use Rattle.memory_builder.proofs.ValuesBack.{length-address_array}

pub list_writes_are : (l : Layout) (klass count place items at : ℕ) → count ≡ items → place ≡ items_place l at
    → record { at = l.list.count; value = U64 count } ∷ record { at = l.list.items; value = U64 place }
    ∷ record { at = l.object.klass; value = U64 klass } ∷ [] ≡ list_writes l klass items (items_place l at)
list_writes_are l klass count place items at a b = rw (a, b) refl

-- addresses take 8 bytes each
pub addresses_len : {X : Type 0} (size : X → ℕ) (at : ℕ) (xs : List X)
    → length (address_array (addresses_from size at xs)) ≡ 8 * length xs
addresses_len size at xs = length-address_array (addresses_from size at xs)
    ∙ ap (λ n. 8 * n) (length-places size (λ x. λ y. x) at xs)

pub list_added : {T E : Type 0} (r : Result T E) (new old out1 out2 : List ℕ) (l : Layout) (t : TypesAt) (at : ℕ)
    (xs : List Item) (n : ℕ) (ws : List Write) (bytes : List ℕ)
    → out1 ≡ old ++ aligned (object n ws) → n ≡ list_len l → ws ≡ list_writes l t.list (length xs) (items_place l at)
    → out2 ≡ out1 ++ aligned bytes → bytes ≡ address_array (addresses_from (item_size l) (first_item l at xs) xs)
    → IfOk r (λ _. new ≡ out2 ++ flat_map (laid_item l t) xs) → IfOk r (λ _. new ≡ old ++ laid_value l t at (Items xs))
unfolding laid_value
list_added r new old out1 out2 l t at xs n ws bytes e1 n_is ws_is e2 bytes_is h =
    let a = aligned (object (list_len l) (list_writes l t.list (length xs) (items_place l at))) in
    let b = aligned (address_array (addresses_from (item_size l) (first_item l at xs) xs)) in
    let items = flat_map (laid_item l t) xs in
    let first : out1 ≡ old ++ a = e1 ∙ ap (λ k. old ++ aligned (object k ws)) n_is
    ∙ ap (λ vs. old ++ aligned (object (list_len l) vs)) ws_is in
    let second : out2 ≡ (old ++ a) ++ b = e2 ∙ ap (λ o. o ++ aligned bytes) first
    ∙ ap (λ bs. (old ++ a) ++ aligned bs) bytes_is in
    let whole : out2 ++ items ≡ old ++ (a ++ (b ++ items)) = ap (λ o. o ++ items) second
    ∙ append_assoc (old ++ a) b items ∙ append_assoc old a (b ++ items) in
    let laid = whole ∙ ap (λ ys. old ++ (a ++ (b ++ ys))) (sym
    (all_flat (item_size l) (laid_item l t) (first_item l at xs) xs)) in
    subst (λ (ys : List ℕ). IfOk r (λ _. new ≡ ys)) laid h
