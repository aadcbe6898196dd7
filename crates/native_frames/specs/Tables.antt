-- File tables, as Linux writes them into a core (`NT_FILE` of `elf.h`): of each entry where its mapping starts and
-- ends, where that begins in the file, in pages, and the file's path. A place past 2^64 - 1 counts as that.
use Rattle.std.specs.Prelude.{◌≡◌, ℕ, ◌+◌, ◌*◌, ◌-◌, ◌^◌, ◌≤◌, min, Bool, true, false, List, [], ◌∷◌, ◌++◌, length}
use Rattle.std.specs.Prelude.{drop}
use Rattle.elf64_core.specs.Fields.{u64_in}
use Rattle.elf64_core.specs.Notes.{Noted}
use Rattle.image_memory.specs.FileTables.{NamesThen, names_start}
use Rattle.image_memory.specs.Notes.{is_table}
use Rattle.native_frames.specs.declared.table.FileRow.{FileRow}

-- an entry: the addresses, where the first stands in the file, in bytes, and the path
pub record Row : Type 0 where
  pub start : ℕ
  pub end : ℕ
  pub offset : ℕ
  pub name : List ℕ

-- the entry of a number, counted from 0, with this path (`NT_FILE`)
abbrev pub row_at : List ℕ → (number : ℕ) → List ℕ → Row
row_at table number name = record {
  start = u64_in table (16 + 24 * number);
  end = u64_in table (24 + 24 * number);
  offset = min (u64_in table (32 + 24 * number) * u64_in table 8) (2 ^ 64 - 1);
  name = name;
}

-- the entries of these paths, from a number on
abbrev pub rows_from : List ℕ → (number : ℕ) → List (List ℕ) → List Row
rows_from table number [] = []
rows_from table number (name ∷ names) = row_at table number name ∷ rows_from table (number + 1) names

-- the bytes are a file table of these entries
pub record IsRowTable (table : List ℕ) (rows : List Row) : Type 0 where
  pub names : List (List ℕ)
  pub rest : List ℕ
  pub header : 16 ≤ length table
  pub count : u64_in table 0 ≡ length names
  pub whole : names_start (length names) ≤ length table
  pub named : NamesThen (drop (names_start (length names)) table) names rest
  pub says : rows ≡ rows_from table 0 names

-- those of a note, if it is a file table, and then those of the notes behind it
abbrev pub RowsNext : (is_table : Bool) → List ℕ → (List Row → Type 0) → List Row → Type 0
RowsNext false desc behind rows = behind rows
RowsNext true desc behind rows =
    (own others : List Row) × IsRowTable desc own × behind others × (rows ≡ own ++ others)

-- to some entries those of a note are added, if it is a file table
abbrev pub AddsRows : (is_table : Bool) → List ℕ → (old new : List Row) → Type 0
AddsRows false desc old new = new ≡ old
AddsRows true desc old new = (own : List Row) × IsRowTable desc own × (new ≡ old ++ own)

-- the file tables among some notes, in order, have these entries together
unfoldable pub RowsSay : List Noted → List Row → Type 0
RowsSay [] rows = rows ≡ []
RowsSay (note ∷ notes) rows = RowsNext (is_table note) note.desc (RowsSay notes) rows

-- ---- as they are read

-- an entry in plain terms
abbrev pub row_of : FileRow → Row
row_of r = record { start = r.start; end = r.end; offset = r.offset; name = r.name.now }
