-- Elements of a file's array, from a place on.
use Rattle.std.proofs.Common.{◌≡◌, ℕ, suc, ◌+◌, ◌<◌, ◌≤◌, List, [], ◌∷◌, ◌++◌, Some, None, option_map, get_or, drop}
use Rattle.std.proofs.Common.{length, add-one, drop-cons, append_assoc, append-nil, refl, sym, ap, ◌∙◌}
use Rattle.std.proofs.lemmas.List.{drop_all}
use Rattle.std.specs.Option.{option_or}
use Rattle.toml.specs.Data.{Data, string, integer, float, boolean, datetime, array, table, Items, item, Members}
use Rattle.toml.specs.Data.{as_table}
use Rattle.toml.specs.View.{view, items_view}
use Rattle.toml.specs.declared.value.Value.{Value}
use Rattle.py_records.specs.declared.table.RecordTable.{RecordTable}
use Rattle.py_records.specs.Keys.{Key}
use Rattle.py_records.specs.Table.{table_from}
use Rattle.py_records.specs.File.{element_flaw, first_flaw, tables_in}

next : (vs : List Value) (i : ℕ) → drop (i + 1) vs ≡ drop (suc i) vs
next vs i = ap (λ k. drop k vs) (add-one i)

items-at : (vs : List Value) (i : ℕ) (v : Value) → i < length vs → v ≡ get_or vs i v
    → items_view (drop i vs) ≡ item (view v) (items_view (drop (i + 1) vs))
items-at vs i v h is =
    ap items_view (drop-cons vs i v h) ∙ ap (λ w. item (view w) (items_view (drop (suc i) vs))) (sym is)
    ∙ ap (λ ds. item (view v) (items_view ds)) (sym (next vs i))

pub first_flaw-hit : (keys : List Key) (vs : List Value) (i : ℕ) (v : Value) (key : List ℕ) → i < length vs
    → v ≡ get_or vs i v → Some key ≡ element_flaw keys (view v)
    → Some (i, key) ≡ first_flaw keys i (items_view (drop i vs))
first_flaw-hit keys vs i v key h is found =
    sym (ap (first_flaw keys i) (items-at vs i v h is)
    ∙ ap (λ o. option_or (option_map (λ k. (i, k)) o) (first_flaw keys (i + 1) (items_view (drop (i + 1) vs))))
    (sym found))

pub first_flaw-miss : (keys : List Key) (vs : List Value) (i : ℕ) (v : Value) → i < length vs → v ≡ get_or vs i v
    → None ≡ element_flaw keys (view v)
    → first_flaw keys (i + 1) (items_view (drop (i + 1) vs)) ≡ first_flaw keys i (items_view (drop i vs))
first_flaw-miss keys vs i v h is none =
    sym (ap (first_flaw keys i) (items-at vs i v h is)
    ∙ ap (λ o. option_or (option_map (λ k. (i, k)) o) (first_flaw keys (i + 1) (items_view (drop (i + 1) vs))))
    (sym none))

pub first_flaw-end : (keys : List Key) (vs : List Value) (i n : ℕ) → length vs ≤ i
    → None ≡ first_flaw keys n (items_view (drop i vs))
first_flaw-end keys vs i n h = sym (ap (λ ds. first_flaw keys n (items_view ds)) (drop_all i vs h))

-- an element's table, and where it is no table none
element-table : (d : Data) (ds : Items) (ms : Members) → Some ms ≡ as_table d
    → tables_in (item d ds) ≡ table_from ms ∷ tables_in ds
element-table (string t) ds ms h = cc
element-table (integer z) ds ms h = cc
element-table (float x) ds ms h = cc
element-table (boolean b) ds ms h = cc
element-table (datetime t) ds ms h = cc
element-table (array items) ds ms h = cc
element-table (table found) ds ms h = let same : ms ≡ found = cc in ap (λ m. table_from m ∷ tables_in ds) (sym same)

no-element : (d : Data) (ds : Items) → None ≡ as_table d → tables_in (item d ds) ≡ tables_in ds
no-element (string t) ds h = refl
no-element (integer z) ds h = refl
no-element (float x) ds h = refl
no-element (boolean b) ds h = refl
no-element (datetime t) ds h = refl
no-element (array items) ds h = refl
no-element (table found) ds h = cc

-- the tables so far with those from a place on are all: after a table, after another value, and at the end
pub tables-pushed : (done new all : List RecordTable) (vs : List Value) (i : ℕ) (v : Value) (ms : Members)
    → i < length vs → v ≡ get_or vs i v → Some ms ≡ as_table (view v)
    → new ≡ done ++ table_from ms ∷ [] → done ++ tables_in (items_view (drop i vs)) ≡ all
    → new ++ tables_in (items_view (drop (i + 1) vs)) ≡ all
tables-pushed done new all vs i v ms h is found push inv =
    let rest : List RecordTable = tables_in (items_view (drop (i + 1) vs)) in
    ap (λ ls. ls ++ rest) push ∙ append_assoc done (table_from ms ∷ []) rest
    ∙ ap (λ ls. done ++ ls) (sym (ap tables_in (items-at vs i v h is)
    ∙ element-table (view v) (items_view (drop (i + 1) vs)) ms found)) ∙ inv

pub tables-kept : (done new all : List RecordTable) (vs : List Value) (i : ℕ) (v : Value) → i < length vs
    → v ≡ get_or vs i v → None ≡ as_table (view v)
    → new ≡ done → done ++ tables_in (items_view (drop i vs)) ≡ all
    → new ++ tables_in (items_view (drop (i + 1) vs)) ≡ all
tables-kept done new all vs i v h is none same inv =
    ap (λ ls. ls ++ tables_in (items_view (drop (i + 1) vs))) same
    ∙ ap (λ ls. done ++ ls) (sym (ap tables_in (items-at vs i v h is)
    ∙ no-element (view v) (items_view (drop (i + 1) vs)) none)) ∙ inv

pub tables-end : (done all : List RecordTable) (vs : List Value) (i : ℕ) → length vs ≤ i
    → done ++ tables_in (items_view (drop i vs)) ≡ all → done ≡ all
tables-end done all vs i h inv =
    sym (append-nil done) ∙ ap (λ ls. done ++ ls) (sym (ap (λ ds. tables_in (items_view ds)) (drop_all i vs h))) ∙ inv
