-- Elements of a file's array, from a place on.
use Rattle.std.proofs.Common.{◌≡◌, ℕ, suc, ◌+◌, ◌<◌, ◌≤◌, List, [], ◌∷◌, ◌++◌, Some, None, option_map, get_or, drop}
use Rattle.std.proofs.Common.{length, add-one, drop-cons, append_assoc, append-nil, refl, sym, ap, ◌∙◌}
use Rattle.std.proofs.lemmas.List.{drop_all}
use Rattle.std.specs.Option.{option_or}
use Rattle.toml.specs.Data.{Data, string, integer, float, boolean, datetime, array, table, Items, item, Members}
use Rattle.toml.specs.Data.{as_table}
use Rattle.toml.specs.View.{view, items_view}
use Rattle.toml.specs.declared.value.Value.{Value}
use Rattle.py_fields.specs.declared.layout.Layout.{Layout}
use Rattle.py_layout.specs.Keys.{Key}
use Rattle.py_layout.specs.Reading.{layout_from}
use Rattle.py_layout.specs.File.{element_flaw, first_flaw, layouts_in}

next : (vs : List Value) (i : ℕ) → drop (i + 1) vs ≡ drop (suc i) vs
next vs i = ap (λ k. drop k vs) (add-one i)

items-at : (vs : List Value) (i : ℕ) (v : Value) → i < length vs → v ≡ get_or vs i v → items_view (drop i vs) ≡ item (view v) (items_view (drop (i + 1) vs))
items-at vs i v h is =
    ap items_view (drop-cons vs i v h) ∙ ap (λ w. item (view w) (items_view (drop (suc i) vs))) (sym is) ∙ ap (λ ds. item (view v) (items_view ds)) (sym (next vs i))

pub first_flaw-hit : (keys : List Key) (vs : List Value) (i : ℕ) (v : Value) (key : List ℕ) → i < length vs → v ≡ get_or vs i v → Some key ≡ element_flaw keys (view v)
    → Some (i, key) ≡ first_flaw keys i (items_view (drop i vs))
first_flaw-hit keys vs i v key h is found =
    sym (ap (first_flaw keys i) (items-at vs i v h is) ∙ ap (λ o. option_or (option_map (λ k. (i, k)) o) (first_flaw keys (i + 1) (items_view (drop (i + 1) vs)))) (sym found))

pub first_flaw-miss : (keys : List Key) (vs : List Value) (i : ℕ) (v : Value) → i < length vs → v ≡ get_or vs i v → None ≡ element_flaw keys (view v)
    → first_flaw keys (i + 1) (items_view (drop (i + 1) vs)) ≡ first_flaw keys i (items_view (drop i vs))
first_flaw-miss keys vs i v h is none =
    sym (ap (first_flaw keys i) (items-at vs i v h is) ∙ ap (λ o. option_or (option_map (λ k. (i, k)) o) (first_flaw keys (i + 1) (items_view (drop (i + 1) vs)))) (sym none))

pub first_flaw-end : (keys : List Key) (vs : List Value) (i n : ℕ) → length vs ≤ i → None ≡ first_flaw keys n (items_view (drop i vs))
first_flaw-end keys vs i n h = sym (ap (λ ds. first_flaw keys n (items_view ds)) (drop_all i vs h))

-- an element's layout, and where it is no table none
table-layout : (d : Data) (ds : Items) (ms : Members) → Some ms ≡ as_table d → layouts_in (item d ds) ≡ layout_from ms ∷ layouts_in ds
table-layout (string t) ds ms h = cc
table-layout (integer z) ds ms h = cc
table-layout (float x) ds ms h = cc
table-layout (boolean b) ds ms h = cc
table-layout (datetime t) ds ms h = cc
table-layout (array items) ds ms h = cc
table-layout (table found) ds ms h = let same : ms ≡ found = cc in ap (λ m. layout_from m ∷ layouts_in ds) (sym same)

no-layout : (d : Data) (ds : Items) → None ≡ as_table d → layouts_in (item d ds) ≡ layouts_in ds
no-layout (string t) ds h = refl
no-layout (integer z) ds h = refl
no-layout (float x) ds h = refl
no-layout (boolean b) ds h = refl
no-layout (datetime t) ds h = refl
no-layout (array items) ds h = refl
no-layout (table found) ds h = cc

-- the layouts so far with those from a place on are all: after a table, after another value, and at the end
pub layouts-pushed : (done new all : List Layout) (vs : List Value) (i : ℕ) (v : Value) (ms : Members) → i < length vs → v ≡ get_or vs i v → Some ms ≡ as_table (view v)
    → new ≡ done ++ layout_from ms ∷ [] → done ++ layouts_in (items_view (drop i vs)) ≡ all → new ++ layouts_in (items_view (drop (i + 1) vs)) ≡ all
layouts-pushed done new all vs i v ms h is found push inv =
    let rest : List Layout = layouts_in (items_view (drop (i + 1) vs)) in
    ap (λ ls. ls ++ rest) push ∙ append_assoc done (layout_from ms ∷ []) rest
    ∙ ap (λ ls. done ++ ls) (sym (ap layouts_in (items-at vs i v h is) ∙ table-layout (view v) (items_view (drop (i + 1) vs)) ms found)) ∙ inv

pub layouts-kept : (done new all : List Layout) (vs : List Value) (i : ℕ) (v : Value) → i < length vs → v ≡ get_or vs i v → None ≡ as_table (view v)
    → new ≡ done → done ++ layouts_in (items_view (drop i vs)) ≡ all → new ++ layouts_in (items_view (drop (i + 1) vs)) ≡ all
layouts-kept done new all vs i v h is none same inv =
    ap (λ ls. ls ++ layouts_in (items_view (drop (i + 1) vs))) same
    ∙ ap (λ ls. done ++ ls) (sym (ap layouts_in (items-at vs i v h is) ∙ no-layout (view v) (items_view (drop (i + 1) vs)) none)) ∙ inv

pub layouts-end : (done all : List Layout) (vs : List Value) (i : ℕ) → length vs ≤ i → done ++ layouts_in (items_view (drop i vs)) ≡ all → done ≡ all
layouts-end done all vs i h inv =
    sym (append-nil done) ∙ ap (λ ls. done ++ ls) (sym (ap (λ ds. layouts_in (items_view ds)) (drop_all i vs h))) ∙ inv
