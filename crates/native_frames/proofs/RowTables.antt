-- The entries of file tables, so far.
use Rattle.std.proofs.Common.{◌≡◌, ℕ, ◌+◌, List, [], ◌∷◌, ◌++◌, length, refl, sym, ap, subst, ◌∙◌, arith}
use Rattle.std.proofs.Common.{append_assoc}
use Rattle.std.proofs.lemmas.List.{append-nil, map-append}
use Rattle.std.specs.Prelude.{Bool, true, false, map}
use Rattle.elf64_core.specs.Notes.{Noted}
use Rattle.image_memory.specs.Notes.{is_table}
use Rattle.native_frames.specs.declared.table.FileRow.{FileRow}
use Rattle.native_frames.specs.Tables.{AddsRows, IsRowTable, Row, RowsSay, row_at, row_of, rows_from}

abbrev pub name_of : FileRow → List ℕ
name_of row = row.name.now

-- an entry more
pub rows_from-more : (table : List ℕ) (number : ℕ) (names : List (List ℕ)) (name : List ℕ)
    → rows_from table number (names ++ name ∷ []) ≡ rows_from table number names
    ++ row_at table (number + length names) name ∷ []
rows_from-more table number [] name =
    let same : number ≡ number + 0 = omega arith in ap (λ n. row_at table n name ∷ []) same
rows_from-more table number (m ∷ ms) name =
    let same : (number + 1) + length ms ≡ number + length (m ∷ ms) = omega arith in
    ap (λ rows. row_at table number m ∷ rows) (rows_from-more table (number + 1) ms name
    ∙ ap (λ n. rows_from table (number + 1) ms ++ row_at table n name ∷ []) same)

-- ---- the tables among notes: what is told so far, and what the rest of them says

-- where the rest says more entries, all say those so far and then these
abbrev pub RowsSoFar : (all rest : List Noted) → List Row → Type 0
RowsSoFar all rest rows = (more : List Row) → RowsSay rest more → RowsSay all (rows ++ more)

pub rows_begin : (all : List Noted) → RowsSoFar all all []
rows_begin all = λ more h. h

pub rows_skip : (all : List Noted) (note : Noted) (rest : List Noted) (rows : List Row) → is_table note ≡ false
    → RowsSoFar all (note ∷ rest) rows → RowsSoFar all rest rows
unfolding RowsSay
rows_skip all note rest rows other inv = λ more h. inv more (rw other h)

pub rows_add : (all : List Noted) (note : Noted) (rest : List Noted) (rows own after : List Row)
    → is_table note ≡ true → IsRowTable note.desc own → after ≡ rows ++ own → RowsSoFar all (note ∷ rest) rows
    → RowsSoFar all rest after
unfolding RowsSay
rows_add all note rest rows own after one table is inv = λ more h.
    subst (RowsSay all) (sym (append_assoc rows own more) ∙ ap (λ t. t ++ more) (sym is))
    (inv (own ++ more) (rw one ((own, more, table, h, refl))))

pub rows_more : (all : List Noted) (rest : List Noted) (note : Noted) (behind : List Noted) (rows after : List Row)
    → rest ≡ note ∷ behind → AddsRows (is_table note) note.desc rows after → RowsSoFar all rest rows
    → RowsSoFar all behind after
rows_more all rest note behind rows after next adds inv =
    by (is_table note) refl adds (subst (λ (ns : List Noted). RowsSoFar all ns rows) next inv)
  where
    by : (b : Bool) → is_table note ≡ b → AddsRows b note.desc rows after → RowsSoFar all (note ∷ behind) rows
        → RowsSoFar all behind after
    by true is added far = rows_add all note behind rows added.0 after is added.1 added.2 far
    by false is added far =
        subst (λ (rs : List Row). RowsSoFar all behind rs) (sym added) (rows_skip all note behind rows is far)

pub adds_none : (note : Noted) (rows : List Row) → is_table note ≡ false
    → AddsRows (is_table note) note.desc rows rows
adds_none note rows e = rw e refl

pub adds_own : (note : Noted) (old own new : List FileRow) → is_table note ≡ true
    → IsRowTable note.desc (map row_of own) → new ≡ old ++ own
    → AddsRows (is_table note) note.desc (map row_of old) (map row_of new)
adds_own note old own new e table is =
    rw e ((map row_of own, table, ap (map row_of) is ∙ map-append row_of old own))

pub rows_end : (all rest : List Noted) (rows : List Row) → rest ≡ [] → RowsSoFar all rest rows → RowsSay all rows
unfolding RowsSay
rows_end all rest rows is inv = subst (RowsSay all) (append-nil rows) (inv [] (rw is refl))
