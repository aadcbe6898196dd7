-- The maps of a core: its load segments in table order, each with its file's name. The name and the place in the
-- file are those of the entry that comes last of the entries, of all file tables in order, that start at the
-- segment's address; that the last one counts is this project's own rule.
use Rattle.std.specs.Prelude.{◌≡◌, ℕ, ◌+◌, nat_eq, nat_le, nat_lt, ◌&&◌, Bool, List, map, reverse, find, Option, Some}
use Rattle.std.specs.Prelude.{is_some, option_and_then, option_map, slice_get}
use Rattle.std.specs.List.{list_any}
use Rattle.elf64_core.specs.Notes.{Noted}
use Rattle.elf64_core.specs.declared.segment.Segment.{Segment}
use Rattle.image_memory.specs.FileTables.{Entry}
use Rattle.image_memory.specs.Notes.{AreCoreNotes}
use Rattle.image_memory.specs.Pieces.{loads_of}
use Rattle.image_memory.specs.declared.file_table.FilePlace.{FilePlace}
use Rattle.image_memory.specs.declared.maps.CoreMapRange.{CoreMapRange}

-- whether an entry of the file table begins at this address
abbrev pub starts_at : ℕ → Entry → Bool
starts_at addr entry = nat_eq entry.start addr

-- the last of the entries that start at an address, if any does
abbrev pub entry_for : List Entry → ℕ → Option Entry
entry_for entries addr = find (starts_at addr) (reverse entries)

-- the name that an entry gives
abbrev pub name_by : Option Entry → Option (List ℕ)
name_by entry = option_map (λ e. e.name) entry

-- the names that are held by their addresses are those that entries give
abbrev pub HoldNames : (held : ℕ → Option (List ℕ)) → (entry_at : ℕ → Option Entry) → Type 0
HoldNames held entry_at = (addr : ℕ) (name : List ℕ) → held addr ≡ Some name → name_by (entry_at addr) ≡ Some name

-- the map of a load segment, with the name that an entry gives it
abbrev pub named_by : Option Entry → Segment → CoreMapRange
named_by entry s = record { pathname = option_map (λ e. e.name) entry; segment = s }

-- the map of a load segment, by the entries
abbrev pub map_by : List Entry → Segment → CoreMapRange
map_by entries s = named_by (entry_for entries s.addr) s

-- where the file of a load segment is mapped from, if it has a name
abbrev pub placed_by : Option Entry → Option FilePlace
placed_by entry = option_map (λ e. e.place) entry

-- where a segment stands in the file that the file table names
abbrev pub file_place_by : List Entry → Segment → Option FilePlace
file_place_by entries s = placed_by (entry_for entries s.addr)

-- the maps of a core
pub record AreMaps (bytes : List ℕ) (maps : List CoreMapRange) : Type 0 where
  pub notes : List Noted
  pub entries : List Entry
  pub found : AreCoreNotes bytes notes entries
  pub says : maps ≡ map (map_by entries) (loads_of bytes)

-- where the files of the maps of a core are mapped from
pub record ArePlaces (bytes : List ℕ) (places : List (Option FilePlace)) : Type 0 where
  pub notes : List Noted
  pub entries : List Entry
  pub found : AreCoreNotes bytes notes entries
  pub says : places ≡ map (file_place_by entries) (loads_of bytes)

-- where the file of the map of a number is mapped from, if there is such a map and it has a name
pub record IsFilePlace (bytes : List ℕ) (index : ℕ) (place : Option FilePlace) : Type 0 where
  pub notes : List Noted
  pub entries : List Entry
  pub found : AreCoreNotes bytes notes entries
  pub says : place ≡ option_and_then (file_place_by entries) (slice_get (loads_of bytes) index)

-- whether the map of a number has a name
abbrev pub is_named : List CoreMapRange → ℕ → Bool
is_named maps index = is_some (option_and_then (λ m. m.pathname) (slice_get maps index))

-- whether an address lies in a segment's memory, whether or not the core has its byte
abbrev pub holds_addr : ℕ → Segment → Bool
holds_addr addr s = nat_le s.addr addr && nat_lt addr (s.addr + s.mem_size)

-- whether an address lies in one of some maps
abbrev pub in_maps : List CoreMapRange → ℕ → Bool
in_maps maps addr = list_any (λ m. holds_addr addr m.segment) maps

-- whether an address lies in a map of a core
abbrev pub in_core : List ℕ → ℕ → Bool
in_core bytes addr = list_any (holds_addr addr) (loads_of bytes)
