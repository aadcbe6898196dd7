-- Notes, by the System V gABI: each is a header of three numbers of 4 bytes, the size of its owner's name,
-- the size of its descriptor, and its type; then the name and the descriptor, each padded to 4 bytes. What
-- stands in the padding isn't looked at, nor what the owner's name is. That padding may be missing at the end
-- is this project's own rule.
use Rattle.std.specs.Prelude.{◌≡◌, ◌⊎◌, ℕ, ◌+◌, ◌*◌, ◌/◌, ◌≤◌, List, [], ◌∷◌, ◌++◌, length, slice_range}
use Rattle.elf64_core.specs.Fields.{u32_in}
use Rattle.elf64_core.specs.Offsets.{n_descsz, n_type}
use Rattle.elf64_core.specs.Header.{IsInside}
use Rattle.elf64_core.specs.declared.note.Note.{Note}

-- what a note says
pub record Noted : Type 0 where
  pub kind : ℕ
  pub desc : List ℕ

-- a note's type and contents
abbrev pub noted : Note → Noted
noted note = record { kind = note.kind; desc = note.desc.now }

-- a size padded to 4 bytes
abbrev pub padded : ℕ → ℕ
padded size = (size + 3) / 4 * 4

-- a descriptor's padding: whole, or where nothing follows it, as much of it as there is
abbrev pub IsDescPadding : (size : ℕ) → (padding rest : List ℕ) → Type 0
IsDescPadding size padding rest =
    (size + length padding ≡ padded size) ⊎ ((rest ≡ []) × (size + length padding ≤ padded size))

-- the bytes are those of a note and then the rest
pub record IsNote (bytes rest : List ℕ) (note : Noted) : Type 0 where
  pub header : List ℕ
  pub name : List ℕ
  pub name_padding : List ℕ
  pub desc_padding : List ℕ
  pub together : bytes ≡ header ++ name ++ name_padding ++ note.desc ++ desc_padding ++ rest
  pub header_size : length header ≡ 12
  pub name_size : u32_in header 0 ≡ length name
  pub desc_size : u32_in header n_descsz ≡ length note.desc
  pub kind : u32_in header n_type ≡ note.kind
  pub name_padded : length name + length name_padding ≡ padded (length name)
  pub desc_padded : IsDescPadding (length note.desc) desc_padding rest

-- no note stands at the front of the bytes
abbrev pub BeginsNoNote : List ℕ → Type 0
BeginsNoNote bytes = (note : Noted) (rest : List ℕ) → IsNote bytes rest note → ⊥

-- the bytes are those of a list of notes and then the rest
abbrev pub NotesThen : List ℕ → List Noted → List ℕ → Type 0
NotesThen bytes [] rest = bytes ≡ rest
NotesThen bytes (note ∷ notes) rest = (after : List ℕ) × IsNote bytes after note × NotesThen after notes rest

-- the bytes are those of a list of notes together
abbrev pub AreNotes : List ℕ → List Noted → Type 0
AreNotes bytes notes = NotesThen bytes notes []

-- no list of notes has these bytes
abbrev pub AreNoNotes : List ℕ → Type 0
AreNoNotes bytes = (notes : List Noted) → AreNotes bytes notes → ⊥

-- no two lists have them
abbrev pub AreNotesOnce : List ℕ → Type 0
AreNotesOnce bytes = (one other : List Noted) → AreNotes bytes one → AreNotes bytes other → one ≡ other

-- the bytes of a range
abbrev pub bytes_of_range : List ℕ → (start len : ℕ) → List ℕ
bytes_of_range bytes start len = slice_range bytes start (start + len)

-- a range that lies in the file, and that no list of notes has
abbrev pub IsBadRange : List ℕ → (start len : ℕ) → Type 0
IsBadRange bytes start len = IsInside bytes start len × AreNoNotes (bytes_of_range bytes start len)
