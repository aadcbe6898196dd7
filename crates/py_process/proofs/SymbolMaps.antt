-- What a map has for each name after one symbol more, and after two lists of them.
use Rattle.std.proofs.Common.{◌≡◌, ℕ, ◌+◌, ◌<◌, Bool, true, false, List, [], ◌∷◌, ◌++◌, take, map, length, get_or}
use Rattle.std.proofs.Common.{reverse, refl, sym, ap, subst, ◌∙◌, ⊎_elim}
use Rattle.std.specs.Prelude.{Option, Some, None, option_map, cond, ◌&&◌}
use Rattle.std.specs.Option.{option_or}
use Rattle.std.specs.List.{find}
use Rattle.std.specs.Str.{bytes_eq}
use Rattle.std.specs.Ordering.{is_eq, nat_cmp}
use Rattle.std.specs.Cmp.{eq_by_cmp_equiv}
use Rattle.std.specs.Cmp.Lexicographic.{slice_cmp, bytes_decides, nat_list_cmp_total, nat_list_eq_equiv}
use Rattle.std.specs.Map.{lookup, AreApart, IsKeyTest, KeepsOthers}
use Rattle.std.specs.BTreeMap.{BTreeMap, Updates}
use Rattle.std.specs.declared.vec.Vec.{Vec}
use Rattle.std.specs.declared.alloc.Global.{Global}
use Rattle.std.proofs.lemmas.Bool.{cases_Bool, cond-true, cond-false}
use Rattle.std.proofs.lemmas.List.{reverse-append, take_more}
use Rattle.std.proofs.lemmas.List.Folds.{find-append}
use Rattle.std.proofs.lemmas.Map.Text.{is_eq-slice_cmp}
use Rattle.elf64_core.specs.Symbols.{SymbolEntry, symbol_entry_of}
use Rattle.elf64_core.specs.declared.symbol.Symbol.{Symbol}
use Rattle.py_process.specs.Ranges.{is_section_named}
use Rattle.py_process.specs.SymbolMap.{address_in, address_of, is_kept}
use Rattle.py_process.specs.declared.symbols.Place.{Place}

abbrev pub Kept : Type 0
Kept = BTreeMap (Vec ℕ Global) ℕ

-- ---- what an insertion leaves at each name

apart : (bs cs ks : List ℕ) → bytes_eq bs cs ≡ false → is_eq (slice_cmp nat_cmp bs ks) ≡ true → is_eq (slice_cmp nat_cmp cs ks) ≡ false
apart bs cs ks n y =
    let same : bytes_eq bs ks ≡ true = sym (is_eq-slice_cmp bs ks) ∙ y in
    is_eq-slice_cmp cs ks ∙ nat_list_eq_equiv.symm cs ks ∙ sym (nat_list_eq_equiv.congr bs ks cs same) ∙ n

module _ {K : Type 0} (eq : K → K → Bool) (test : K → Bool) where
  other_entries : {X : Type 0} (old new : List (K × X)) → KeepsOthers eq test old new → (other : K → Bool) → IsKeyTest eq other → AreApart test other → lookup other new ≡ lookup other old
  unfolding KeepsOthers
  other_entries old new h = h

by_bytes : (f g : List ℕ → Option ℕ) (bs : List ℕ) (w : Option ℕ) → g bs ≡ w → ((cs : List ℕ) → bytes_eq bs cs ≡ false → g cs ≡ f cs) → (cs : List ℕ) → g cs ≡ cond (bytes_eq bs cs) w (f cs)
by_bytes f g bs w here other cs =
    ⊎_elim
    (λ y. subst (λ l. g l ≡ w) ((bytes_decides bs cs).0 y) here ∙ sym (cond-true (bytes_eq bs cs) w (f cs) y))
    (λ n. other cs n ∙ sym (cond-false (bytes_eq bs cs) w (f cs) n))
    (cases_Bool (bytes_eq bs cs))

inserted : (old new : Kept) (key : Vec ℕ Global) (w : Option ℕ) → Updates (λ x y. slice_cmp nat_cmp x.items y.items) old new key w
    → (name : List ℕ) → address_in new name ≡ cond (bytes_eq key.items name) w (address_in old name)
inserted old new key w h =
    by_bytes (address_in old) (address_in new) key.items w h.1
    (λ cs e. other_entries _ _ _ _ h.3 _ (λ x y. (eq_by_cmp_equiv nat_list_cmp_total).congr cs x.items y.items) (λ k. apart key.items cs k.items e))

-- ---- one symbol more

address_more : (place : Place) (name : List ℕ) (es : List SymbolEntry) (x : SymbolEntry)
    → address_of place name (es ++ x ∷ []) ≡ cond (is_kept place x && is_section_named name x.name) (Some (x.value + place.offset)) (address_of place name es)
address_more place name es x =
    ap (λ l. option_map (λ (s : SymbolEntry). s.value + place.offset) (find (λ s. is_kept place s && is_section_named name s.name) l)) (reverse-append es (x ∷ []))
    ∙ by (is_kept place x && is_section_named name x.name)
  where
    by : (t : Bool) → option_map (λ (s : SymbolEntry). s.value + place.offset) (cond t (Some x) (find (λ s. is_kept place s && is_section_named name s.name) (reverse es)))
        ≡ cond t (Some (x.value + place.offset)) (address_of place name es)
    by true = refl
    by false = refl

abbrev pub Says : Place → List SymbolEntry → Kept → Kept → Type 0
Says place es base kept = (name : List ℕ) → address_in kept name ≡ option_or (address_of place name es) (address_in base name)

pub skipped : (place : Place) (es : List SymbolEntry) (x : SymbolEntry) (base kept : Kept)
    → ((name : List ℕ) → (is_kept place x && is_section_named name x.name) ≡ false) → Says place es base kept → Says place (es ++ x ∷ []) base kept
skipped place es x base kept not says name =
    says name ∙ ap (λ a. option_or a (address_in base name)) (sym (address_more place name es x ∙ cond-false _ _ _ (not name)))

pub stored : (place : Place) (es : List SymbolEntry) (x : SymbolEntry) (base old new : Kept) (key : Vec ℕ Global) (text : List ℕ)
    → x.name ≡ Some text → key.items ≡ text → is_kept place x ≡ true
    → Updates (λ x y. slice_cmp nat_cmp x.items y.items) old new key (Some (x.value + place.offset))
    → Says place es base old → Says place (es ++ x ∷ []) base new
stored place es x base old new key text named is kept updates says name =
    inserted old new key (Some (x.value + place.offset)) updates name
    ∙ ap (λ t. cond (bytes_eq t name) (Some (x.value + place.offset)) (address_in old name)) is
    ∙ ap (λ o. cond (bytes_eq text name) (Some (x.value + place.offset)) o) (says name)
    ∙ by (bytes_eq text name)
    ∙ ap (λ a. option_or a (address_in base name)) (sym (address_more place name es x ∙ test))
  where
    test : cond (is_kept place x && is_section_named name x.name) (Some (x.value + place.offset)) (address_of place name es)
        ≡ cond (bytes_eq text name) (Some (x.value + place.offset)) (address_of place name es)
    test = ap (λ k. cond (k && is_section_named name x.name) (Some (x.value + place.offset)) (address_of place name es)) kept
        ∙ ap (λ n. cond (is_section_named name n) (Some (x.value + place.offset)) (address_of place name es)) named

    by : (t : Bool) → cond t (Some (x.value + place.offset)) (option_or (address_of place name es) (address_in base name))
        ≡ option_or (cond t (Some (x.value + place.offset)) (address_of place name es)) (address_in base name)
    by true = refl
    by false = refl

map_append : (xs ys : List Symbol) → map symbol_entry_of (xs ++ ys) ≡ map symbol_entry_of xs ++ map symbol_entry_of ys
map_append [] ys = refl
map_append (x ∷ xs) ys = ap (λ l. symbol_entry_of x ∷ l) (map_append xs ys)

pub taken : (xs : List Symbol) (i : ℕ) (d : Symbol) → i < length xs → map symbol_entry_of (take (i + 1) xs) ≡ map symbol_entry_of (take i xs) ++ symbol_entry_of (get_or xs i d) ∷ []
taken xs i d lt = ap (map symbol_entry_of) (take_more xs i d lt) ∙ map_append (take i xs) (get_or xs i d ∷ [])

-- ---- one list behind another

pub joined : (place : Place) (name : List ℕ) (xs ys : List SymbolEntry)
    → option_or (address_of place name ys) (address_of place name xs) ≡ address_of place name (xs ++ ys)
joined place name xs ys = sym (ap (λ l. option_map address (find test l)) (reverse-append xs ys)
    ∙ ap (option_map address) (find-append test (reverse ys) (reverse xs)) ∙ by (find test (reverse ys)))
  where
    address : SymbolEntry → ℕ
    address s = s.value + place.offset

    test : SymbolEntry → Bool
    test s = is_kept place s && is_section_named name s.name

    by : (r : Option SymbolEntry) → option_map address (option_or r (find test (reverse xs))) ≡ option_or (option_map address r) (option_map address (find test (reverse xs)))
    by None = refl
    by (Some x) = refl

or_none : (r : Option ℕ) → option_or r None ≡ r
or_none None = refl
or_none (Some x) = refl

pub both_lists : (place : Place) (name : List ℕ) (xs ys : List SymbolEntry) (plain dynamic : List Symbol) (base first second : Kept)
    → map symbol_entry_of plain ≡ xs → map symbol_entry_of dynamic ≡ ys → base.entries ≡ []
    → Says place (map symbol_entry_of plain) base first → Says place (map symbol_entry_of dynamic) first second
    → address_in second name ≡ address_of place name (xs ++ ys)
both_lists place name xs ys plain dynamic base first second is_plain is_dynamic empty one two =
    two name
    ∙ ap (λ a. option_or (address_of place name (map symbol_entry_of dynamic)) a) (one name
    ∙ ap (λ es. option_or (address_of place name (map symbol_entry_of plain)) (lookup (λ (k : Vec ℕ Global). is_eq (slice_cmp nat_cmp name k.items)) es)) empty
    ∙ or_none (address_of place name (map symbol_entry_of plain)))
    ∙ joined place name (map symbol_entry_of plain) (map symbol_entry_of dynamic)
    ∙ ap (λ l. address_of place name (l ++ map symbol_entry_of dynamic)) is_plain
    ∙ ap (λ l. address_of place name (xs ++ l)) is_dynamic
