-- The maps of a core as entries of maps text.
use Rattle.std.specs.Prelude.{◌≡◌, ℕ, ◌+◌, ◌*◌, ◌%◌, ◌^◌, ◌&&◌, ◌||◌, nat_eq, nat_lt, Bool, true, false, List, [], map}
use Rattle.std.specs.Prelude.{filter, Option, Some, None, unwrap_or, Result, Ok, Err, Vec}
use Rattle.std.specs.Global.{Global}
use Rattle.std.specs.List.{list_all}
use Rattle.std.specs.List.Sorted.{IsPermutation, IsSortedBy, IsStableBy}
use Rattle.elf64_core.specs.Notes.{Noted}
use Rattle.elf64_core.specs.declared.segment.Segment.{Segment}
use Rattle.image_memory.specs.FileTables.{Entry}
use Rattle.image_memory.specs.Maps.{file_place_by, map_by}
use Rattle.image_memory.specs.Notes.{AreCoreNotes}
use Rattle.image_memory.specs.Pieces.{loads_of}
use Rattle.image_memory.specs.declared.file_table.FilePlace.{FilePlace}
use Rattle.image_memory.specs.declared.maps.CoreMapRange.{CoreMapRange}
use Rattle.maps_text.specs.Paths.{path_name_of}
use Rattle.maps_text.specs.Relevance.{is_relevant}
use Rattle.maps_text.specs.declared.entry.MapsEntry.{MapsEntry}
use Rattle.normalize_core.specs.Order.{in_order}
use Rattle.std.specs.declared.ops.Range.{Range}
use Rattle.py_process.specs.Steps.{Then}
use Rattle.core_merge.specs.declared.error.CoreMergeError.{CoreMergeError}
use Rattle.core_merge.specs.declared.error.CoreMergeError.TheVariants.{BadOffset, MapsOverlap}

-- the addresses of a map
abbrev pub range_of : CoreMapRange → Range ℕ
range_of m = record { start = m.segment.addr; end = m.segment.addr + m.segment.mem_size }

-- a map as an entry, as if it began at the start of its file: what it allows are the three lowest bits of its flags,
-- which mean the same in both (PF_R, PF_W and PF_X of the System V gABI)
abbrev pub unplaced : CoreMapRange → MapsEntry
unplaced m = record {
  range = range_of m;
  perm = record { 0 = m.segment.flags % 8 };
  offset = 0;
  path_name = path_name_of 0 (range_of m) (unwrap_or m.pathname []);
  build_id = None;
}

-- where a map begins in its file, in bytes: 0 where it has none
abbrev pub offset_of : Option FilePlace → ℕ
offset_of None = 0
offset_of (Some place) = place.pages * place.page_size

-- the map of a load segment as an entry, by the entries of the core's file tables
abbrev pub entry_of : List Entry → Segment → MapsEntry
entry_of entries s = record (unplaced (map_by entries s)) { offset = offset_of (file_place_by entries s) }

-- the relevant maps of a core as entries, in the order of the core
pub record AreCoreEntries (bytes : List ℕ) (made : List MapsEntry) : Type 0 where
  pub notes : List Noted
  pub entries : List Entry
  pub found : AreCoreNotes bytes notes entries
  pub says : made ≡ filter is_relevant (map (entry_of entries) (loads_of bytes))

-- an entry begins at a place of 64 bits in its file
abbrev pub is_placed : MapsEntry → Bool
is_placed entry = nat_lt entry.offset (2 ^ 64)

-- these entries, or that one of them begins past that
abbrev pub SaysMade : List ℕ → Result (List MapsEntry) CoreMergeError → Type 0
SaysMade bytes (Ok made) = AreCoreEntries bytes made × (list_all is_placed made ≡ true)
SaysMade bytes (Err BadOffset) = (made : List MapsEntry) × AreCoreEntries bytes made × (list_all is_placed made ≡ false)
SaysMade bytes (Err _) = ⊥

-- the first starts before the second, or ends before it where both start at once
abbrev pub stands_before : MapsEntry → MapsEntry → Bool
stands_before x y = nat_lt x.range.start y.range.start
    || (nat_eq x.range.start y.range.start && nat_lt x.range.end y.range.end)

-- entries in the order of starts and ends; those of one range keep their order
pub record AreOrdered (made ordered : List MapsEntry) : Type 0 where
  pub same : IsPermutation made ordered
  pub sorted : IsSortedBy stands_before ordered
  pub stable : IsStableBy stands_before made ordered

-- so ordered, or that two overlap
abbrev pub SaysOrdered : List MapsEntry → Result (List MapsEntry) CoreMergeError → Type 0
SaysOrdered made (Ok ordered) = AreOrdered made ordered × (in_order ordered ≡ true)
SaysOrdered made (Err MapsOverlap) = (ordered : List MapsEntry) × AreOrdered made ordered × (in_order ordered ≡ false)
SaysOrdered made (Err _) = ⊥

-- a result with the maps of a core
abbrev pub entries_in : Result (Vec MapsEntry Global) CoreMergeError → Result (List MapsEntry) CoreMergeError
entries_in (Ok v) = Ok v.items
entries_in (Err e) = Err e

-- the maps of a core as entries in order, or the first cause why there are none
abbrev pub EntriesSay : List ℕ → Result (List MapsEntry) CoreMergeError → Type 0
EntriesSay bytes = Then (SaysMade bytes) SaysOrdered
