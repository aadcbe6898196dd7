-- What is read of a core: its maps, and what its notes say.
use Rattle.std.specs.Prelude.{◌≡◌, ◌≤◌, ◌-◌, ◌^◌, ℕ, All, List, length, Option, filter, filter_map, option_map}
use Rattle.std.specs.BTreeMap.{get}
use Rattle.std.specs.Ordering.{nat_cmp}
use Rattle.elf64_core.specs.Header.{machine_of}
use Rattle.elf64_core.specs.Notes.{AreNotes, Noted}
use Rattle.elf64_core.specs.declared.segment.Segment.{Segment}
use Rattle.image_memory.specs.Cores.{IsCore}
use Rattle.image_memory.specs.FileTables.{Entry, file_entry_of}
use Rattle.image_memory.specs.Maps.{AreMaps, ArePlaces, entry_for}
use Rattle.image_memory.specs.Notes.{AreStatuses, IsProcess, IsWhole, NotesOf, TablesSay, is_table, last_process}
use Rattle.image_memory.specs.Notes.{note_segments, segment_bytes, status_noted}
use Rattle.image_memory.specs.Pieces.{core_ranges, loads_of}
use Rattle.image_memory.specs.declared.records.elf_prstatus.{elf_prstatus}
use Rattle.image_memory.specs.declared.records.elf_prpsinfo.{elf_prpsinfo}
use Rattle.image_memory.specs.declared.contents.Contents.{Contents}
use Rattle.image_memory.specs.declared.contents.Told.{Told}

-- what the notes of some segments say, in order
pub record SegmentsSay (bytes : List ℕ) (segments : List Segment) (statuses : List elf_prstatus)
    (process : Option elf_prpsinfo) (entries : List Entry) : Type 0 where
  pub notes : List Noted
  pub together : NotesOf bytes segments notes
  pub whole : All IsWhole notes
  pub tables : TablesSay (filter is_table notes) entries
  pub statuses_are : statuses ≡ filter_map status_noted notes
  pub process_is : process ≡ last_process notes

-- the notes of a segment say nothing
abbrev pub IsBadSegment : List ℕ → Segment → Type 0
IsBadSegment bytes s = (notes : List Noted) (entries : List Entry) → AreNotes (segment_bytes bytes s) notes
    → All IsWhole notes → TablesSay (filter is_table notes) entries → ⊥

-- what is told of the notes of some segments: of entries at one address the last one
pub record AreTold (bytes : List ℕ) (segments : List Segment) (told : Told) : Type 0 where
  pub entries : List Entry
  pub say : SegmentsSay bytes segments told.statuses.items told.process entries
  pub last_are : (addr : ℕ) → option_map file_entry_of (get nat_cmp told.last addr) ≡ entry_for entries addr

-- what is read of these bytes
pub record AreContents (bytes : List ℕ) (contents : Contents) : Type 0 where
  pub core : IsCore bytes
  pub fits : length bytes ≤ 2 ^ 64 - 1
  pub machine_is : contents.machine ≡ machine_of bytes
  pub loads_are : contents.loads.items ≡ loads_of bytes
  pub notes_are : contents.notes.items ≡ note_segments bytes
  pub table_is : contents.table ≡ core_ranges bytes
  pub maps_are : AreMaps bytes contents.maps.items
  pub places_are : ArePlaces bytes contents.places.items
  pub statuses_are : AreStatuses bytes contents.statuses.items
  pub process_is : IsProcess bytes contents.process
