-- The notes of a core, and what they say of the process. The types of notes and the places in them are those
-- that Linux writes on 64-bit machines (`NT_PRSTATUS`, `NT_PRPSINFO` and `NT_FILE` of `elf.h`, and the records
-- `elf_prstatus` and `elf_prpsinfo`). Which sizes are too short is this project's own rule: a record has to have
-- all that is read of it.
use Rattle.std.specs.Prelude.{◌≡◌, ℕ, ◌≤◌, nat_eq, nat_le, ◌&&◌, Bool, List, [], ◌∷◌, ◌++◌, length, map, reverse, All}
use Rattle.std.specs.Prelude.{filter, filter_map, find, slice_range, Option, Some, None, option_and_then, option_map}
use Rattle.std.specs.Prelude.{if◌then◌else◌}
use Rattle.std.specs.Prelude.{ℤ}
use Rattle.std.specs.Int.{w32, w16, cast_signed}
use Rattle.elf64_core.specs.Fields.{u32_in, u16_in}
use Rattle.elf64_core.specs.Header.{note_kind, segments_of}
use Rattle.elf64_core.specs.Notes.{Noted, AreNotes, bytes_of_range}
use Rattle.elf64_core.specs.declared.segment.Segment.{Segment}
use Rattle.image_memory.specs.FileTables.{Entry, IsFileTable}
use Rattle.image_memory.specs.declared.records.elf_prstatus.{elf_prstatus}
use Rattle.image_memory.specs.declared.records.elf_prpsinfo.{elf_prpsinfo}

-- whether a segment holds notes (`PT_NOTE`, gABI)
abbrev pub is_note : Segment → Bool
is_note s = nat_eq s.kind note_kind

-- the note segments of a core, in table order
abbrev pub note_segments : List ℕ → List Segment
note_segments bytes = filter is_note (segments_of bytes)

-- the bytes that the file has of a segment
abbrev pub segment_bytes : List ℕ → Segment → List ℕ
segment_bytes bytes s = bytes_of_range bytes s.offset s.file_size

-- the bytes of each note segment, in table order
abbrev pub note_bytes : List ℕ → List (List ℕ)
note_bytes bytes = map (segment_bytes bytes) (note_segments bytes)

-- the notes of some segments, in order: the bytes of each are its notes together
abbrev pub NotesOf : List ℕ → List Segment → List Noted → Type 0
NotesOf bytes [] notes = notes ≡ []
NotesOf bytes (s ∷ ss) notes =
    (own others : List Noted) × AreNotes (segment_bytes bytes s) own
    × NotesOf bytes ss others × (notes ≡ own ++ others)

-- whether a note is of this type
abbrev pub is_of_kind : ℕ → Noted → Bool
is_of_kind kind note = nat_eq note.kind kind

-- the types of status records, process records and file tables
abbrev pub status_kind : ℕ
status_kind = 1

-- `NT_PRPSINFO`, the type of the note of the process (Linux, elf.h)
abbrev pub process_kind : ℕ
process_kind = 3

-- `NT_FILE`, the type of the file table (Linux, elf.h)
abbrev pub table_kind : ℕ
table_kind = 0x46494c45

-- a status record has 112 bytes at least, a process record 136
pub record IsWhole (note : Noted) : Type 0 where
  pub status : note.kind ≡ status_kind → 112 ≤ length note.desc
  pub process : note.kind ≡ process_kind → 136 ≤ length note.desc

-- the file tables among some notes, in order, have these entries together
abbrev pub TablesSay : List Noted → List Entry → Type 0
TablesSay [] entries = entries ≡ []
TablesSay (table ∷ tables) entries =
    (own others : List Entry) × IsFileTable table.desc own × TablesSay tables others × (entries ≡ own ++ others)

-- whether a note is a file table
abbrev pub is_table : Noted → Bool
is_table = is_of_kind table_kind

-- the notes of a core, and the entries of its file tables
pub record AreCoreNotes (bytes : List ℕ) (notes : List Noted) (entries : List Entry) : Type 0 where
  pub together : NotesOf bytes (note_segments bytes) notes
  pub whole : All IsWhole notes
  pub tables : TablesSay (filter is_table notes) entries

-- these are the notes of a core, in order
pub record AreNotesOfCore (bytes : List ℕ) (notes : List Noted) : Type 0 where
  pub entries : List Entry
  pub found : AreCoreNotes bytes notes entries

-- the descriptor of the first note of a type
abbrev pub desc_of : ℕ → List Noted → Option (List ℕ)
desc_of kind notes = option_map (λ note. note.desc) (find (is_of_kind kind) notes)

-- the signed numbers of 4 and of 2 bytes at an offset
abbrev pub i32_in : List ℕ → ℕ → ℤ
i32_in bytes at = cast_signed w32 (u32_in bytes at)

-- the signed number of two bytes at a place, the lowest byte first
abbrev pub i16_in : List ℕ → ℕ → ℤ
i16_in bytes at = cast_signed w16 (u16_in bytes at)

-- where pr_cursig and pr_pid stand in a status record (Linux' elf_prstatus of 64-bit processes), in bytes
abbrev pub cursig_place : ℕ
cursig_place = 12

-- where a status record has the thread's id, in bytes (`pr_pid` of `struct elf_prstatus`, Linux)
abbrev pub status_pid_place : ℕ
status_pid_place = 32

-- and pr_pid, pr_fname and pr_psargs in a process record (elf_prpsinfo), in which the last of them ends it
abbrev pub process_pid_place : ℕ
process_pid_place = 24

-- where the note of the process has the file's name, in bytes (`pr_fname` of `struct elf_prpsinfo`, Linux)
abbrev pub fname_place : ℕ
fname_place = 40

-- where the note of the process has the arguments, in bytes (`pr_psargs` of `struct elf_prpsinfo`, Linux)
abbrev pub psargs_place : ℕ
psargs_place = 56

-- what a status record says
unfoldable pub status_in : List ℕ → elf_prstatus
status_in desc = record { pr_cursig = i16_in desc cursig_place; pr_pid = i32_in desc status_pid_place }

-- what a process record says
unfoldable pub process_in : List ℕ → elf_prpsinfo
process_in desc = record {
  pr_pid = i32_in desc process_pid_place;
  pr_fname = slice_range desc fname_place psargs_place;
  pr_psargs = slice_range desc psargs_place 136;
}

-- what a note says, if it is a status record
abbrev pub status_noted : Noted → Option elf_prstatus
status_noted note =
    if is_of_kind status_kind note && nat_le 112 (length note.desc) then Some (status_in note.desc) else None

-- what a note says, if it is a process record
abbrev pub process_of : Noted → Option elf_prpsinfo
process_of note =
    if is_of_kind process_kind note && nat_le 136 (length note.desc) then Some (process_in note.desc) else None

-- what the last process record says, if there is one
abbrev pub last_process : List Noted → Option elf_prpsinfo
last_process notes = option_and_then process_of (find (is_of_kind process_kind) (reverse notes))

-- the status records of a core, in order
pub record AreStatuses (bytes : List ℕ) (statuses : List elf_prstatus) : Type 0 where
  pub notes : List Noted
  pub entries : List Entry
  pub found : AreCoreNotes bytes notes entries
  pub says : statuses ≡ filter_map status_noted notes

-- the last process record of a core, if there is one
pub record IsProcess (bytes : List ℕ) (process : Option elf_prpsinfo) : Type 0 where
  pub notes : List Noted
  pub entries : List Entry
  pub found : AreCoreNotes bytes notes entries
  pub says : process ≡ last_process notes
