-- The memory of a core and of the images that it mapped. A usual core lacks private mappings of files that were
-- never written to, such as constant data; its file tables tell which file stands there from which page on.
-- That the images handed in are the files that were mapped is trusted.
use Rattle.std.specs.Prelude.{◌≡◌, ℕ, ◌+◌, ◌-◌, ◌*◌, ◌<◌, ◌≤◌, All, nat_eq, not, min, Bool, List, ◌∷◌, [], ◌++◌, length}
use Rattle.std.specs.Prelude.{take, drop, filter_map, Option, Some, None, option_map, option_and_then, position}
use Rattle.std.specs.Prelude.{slice_index_or, if◌then◌else◌, bit_and}
use Rattle.elf64_core.specs.Notes.{Noted}
use Rattle.elf64_core.specs.declared.segment.Segment.{Segment}
use Rattle.elf64_core.specs.declared.span_table.TableEntry.{TableEntry}
use Rattle.piece_table.specs.Files.{IsInFile, regions_in}
use Rattle.piece_table.specs.Places.{IsBounded}
use Rattle.piece_table.specs.declared.table.FileRange.{FileRange}
use Rattle.process_memory.specs.Memory.{Region}
use Rattle.image_memory.specs.Cores.{IsCore}
use Rattle.image_memory.specs.FileTables.{Entry}
use Rattle.image_memory.specs.Images.{Pushed, first_under, images_shown, is_under}
use Rattle.image_memory.specs.Maps.{entry_for}
use Rattle.image_memory.specs.Mmap.{Mapped, shown_bytes}
use Rattle.image_memory.specs.Notes.{AreCoreNotes}
use Rattle.image_memory.specs.Pieces.{core_ranges, loads_of, memory_of}
use Rattle.image_memory.specs.declared.file_table.FilePlace.{FilePlace}

-- a segment with the write flag
abbrev pub is_writable : Segment → Bool
is_writable s = not (nat_eq (bit_and s.flags 2) 0)

-- where in its file a mapping begins, in bytes
abbrev pub byte_place : FilePlace → ℕ
byte_place place = place.pages * place.page_size

-- what an image has of a segment that it was mapped as, by the entry that names it
abbrev pub region_of_image : Segment → FilePlace → Mapped → Region
region_of_image s place image = (s.addr, take s.mem_size (drop (byte_place place) (shown_bytes image)))

-- the bytes that an image has for a segment, where an image was handed in under the entry's name
abbrev pub region_by : Pushed → Segment → Entry → Option Region
region_by images s entry = option_map (region_of_image s entry.place) (first_under entry.name images)

-- the piece of a load segment that comes from an image: it isn't writable, and has a name under which one is
-- handed in
abbrev pub backed_region : Pushed → List Entry → Segment → Option Region
backed_region images entries s =
    if is_writable s then None else option_and_then (region_by images s) (entry_for entries s.addr)

-- the memory of a core and its images: the core's own pieces, in table order, then those from images
abbrev pub backed_memory_of : List ℕ → List Entry → Pushed → List Region
backed_memory_of bytes entries images = memory_of bytes ++ filter_map (backed_region images entries) (loads_of bytes)

-- these pieces, by the entries of the core's file tables
pub record IsBackedMemory (bytes : List ℕ) (images : Pushed) (regions : List Region) : Type 0 where
  pub notes : List Noted
  pub entries : List Entry
  pub found : AreCoreNotes bytes notes entries
  pub says : regions ≡ backed_memory_of bytes entries images

-- what is kept of a core and images: the core, what each image shows, and the ranges of addresses that have bytes
-- of these. Files are numbered: the core's is 0, the images' follow in order
pub record Backed : Type 0 where
  pub core : List ℕ
  pub images : List (List ℕ)
  pub ranges : List FileRange

-- the core's bytes, and those of its images in order
abbrev pub files_of : Backed → List (List ℕ)
files_of dump = dump.core ∷ dump.images

-- the pieces of memory that the ranges are
abbrev pub regions_of : Backed → List Region
regions_of dump = regions_in (files_of dump) dump.ranges

-- which bytes of an image of so many bytes a segment has
abbrev pub range_in : Segment → FilePlace → ℕ → TableEntry
range_in s place size = record {
  start = s.addr;
  len = min s.mem_size (size - min (byte_place place) size);
  offset = min (byte_place place) size;
}

-- the addresses of a segment that an image of this number has bytes for; files are counted from the core, 0
abbrev pub numbered_range : Pushed → Segment → FilePlace → ℕ → FileRange
numbered_range images s place number = record {
  range = range_in s place (length (slice_index_or (images_shown images) number []));
  file = number + 1;
}

-- by the name and place that an entry gives a segment
abbrev pub range_named : Pushed → Segment → Option (List ℕ) → Option FilePlace → Option FileRange
range_named images s None place = None
range_named images s (Some name) None = None
range_named images s (Some name) (Some place) =
    option_map (numbered_range images s place) (position (is_under name) images)

-- the addresses that an image has bytes for: none of a segment with the write flag
abbrev pub range_by : Pushed → Segment → Option (List ℕ) → Option FilePlace → Option FileRange
range_by images s name place = if is_writable s then None else range_named images s name place

-- the addresses that an image has bytes for, by the core's file table
abbrev pub image_range : Pushed → List Entry → Segment → Option FileRange
image_range images entries s =
    range_by images s (option_map (λ e. e.name) (entry_for entries s.addr))
    (option_map (λ e. e.place) (entry_for entries s.addr))

-- which bytes of which images the segments of a core have, in table order
pub record AreImageRanges (bytes : List ℕ) (images : Pushed) (ranges : List FileRange) : Type 0 where
  pub notes : List Noted
  pub entries : List Entry
  pub found : AreCoreNotes bytes notes entries
  pub says : ranges ≡ filter_map (image_range images entries) (loads_of bytes)

-- what is kept of this core and these images: the ranges are those of the core's own bytes, in table order, then
-- those of the images'
pub record IsBacked (bytes : List ℕ) (images : Pushed) (dump : Backed) : Type 0 where
  pub core_is : dump.core ≡ bytes
  pub images_are : dump.images ≡ images_shown images
  pub from_images : List FileRange
  pub images_have : AreImageRanges bytes images from_images
  pub ranges_are : dump.ranges ≡ core_ranges bytes ++ from_images

-- a range whose bytes an image has
pub record IsInImage (images : List (List ℕ)) (f : FileRange) : Type 0 where
  pub number : ℕ
  pub file_is : f.file ≡ number + 1
  pub known : number < length images
  pub inside : f.range.offset + f.range.len ≤ length (slice_index_or images number [])
  pub fits : IsBounded f

-- the core's bytes are those of a core, and each range lies in its file
pub record IsKept (dump : Backed) : Type 0 where
  pub core : IsCore dump.core
  pub held : All (IsInFile (files_of dump)) dump.ranges
