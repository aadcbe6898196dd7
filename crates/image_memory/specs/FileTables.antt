-- File tables: which files a process had mapped, as Linux writes them into a core (`NT_FILE` of `elf.h`): how
-- many entries there are, the size of a page in bytes, three numbers of 8 bytes for each entry, where its
-- mapping starts, where that ends, and where it begins in the file, in pages; then the files' names, each ended
-- by a nul. What follows the names isn't looked at.
use Rattle.std.specs.Prelude.{◌≡◌, ℕ, ◌+◌, ◌*◌, ◌≤◌, List, [], ◌∷◌, length, take, drop, Some, position}
use Rattle.elf64_core.specs.Fields.{u64_in}
use Rattle.elf64_core.specs.Nul.{is_nul}
use Rattle.image_memory.specs.declared.file_table.FilePlace.{FilePlace}
use Rattle.image_memory.specs.declared.file_table.FileEntry.{FileEntry}

-- what an entry says: where the mapping starts in memory and in the file, and the file's name
pub record Entry : Type 0 where
  pub start : ℕ
  pub place : FilePlace
  pub name : List ℕ

-- an entry of the file table, with the bytes of its name
abbrev pub file_entry_of : FileEntry → Entry
file_entry_of e = record { start = e.start; place = e.place; name = e.name.now }

-- the bytes are a name, up to the first nul that comes, that nul, and then the rest
pub record IsFirstName (bytes name rest : List ℕ) : Type 0 where
  pub size : ℕ
  pub ends : position is_nul bytes ≡ Some size
  pub name_is : name ≡ take size bytes
  pub rest_is : rest ≡ drop (size + 1) bytes

-- the bytes are such names one by one, and then the rest
abbrev pub NamesThen : List ℕ → List (List ℕ) → List ℕ → Type 0
NamesThen bytes [] rest = bytes ≡ rest
NamesThen bytes (name ∷ names) rest = (after : List ℕ) × IsFirstName bytes name after × NamesThen after names rest

-- where the numbers of an entry stand
abbrev pub entry_at : List ℕ → (number : ℕ) → List ℕ → Entry
entry_at table number name = record {
  start = u64_in table (16 + 24 * number);
  place = record { pages = u64_in table (32 + 24 * number); page_size = u64_in table 8 };
  name = name;
}

-- the entries of these names, from a number on
abbrev pub entries_from : List ℕ → (number : ℕ) → List (List ℕ) → List Entry
entries_from table number [] = []
entries_from table number (name ∷ names) = entry_at table number name ∷ entries_from table (number + 1) names

-- where the names begin
abbrev pub names_start : ℕ → ℕ
names_start count = 16 + 24 * count

-- the bytes are a file table of these entries
pub record IsFileTable (table : List ℕ) (entries : List Entry) : Type 0 where
  pub names : List (List ℕ)
  pub rest : List ℕ
  pub header : 16 ≤ length table
  pub count : u64_in table 0 ≡ length names
  pub whole : names_start (length names) ≤ length table
  pub named : NamesThen (drop (names_start (length names)) table) names rest
  pub says : entries ≡ entries_from table 0 names

-- the bytes are no file table
abbrev pub IsNoFileTable : List ℕ → Type 0
IsNoFileTable table = (entries : List Entry) → IsFileTable table entries → ⊥
