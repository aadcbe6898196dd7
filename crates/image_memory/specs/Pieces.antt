-- The pieces of memory that a core holds.
use Rattle.std.specs.Prelude.{ℕ, ◌+◌, ◌-◌, ◌^◌, ◌≤◌, nat_eq, Bool, List, map, take, drop, min, filter}
use Rattle.elf64_core.specs.declared.segment.Segment.{Segment}
use Rattle.elf64_core.specs.declared.span_table.TableEntry.{TableEntry}
use Rattle.elf64_core.specs.Header.{IsInside, load_kind, segments_of}
use Rattle.piece_table.specs.Places.{addresses_of}
use Rattle.piece_table.specs.declared.table.FileRange.{FileRange}
use Rattle.process_memory.specs.Memory.{Region}

-- a segment's bytes: those that the file has, as far as the memory has room for them
abbrev pub segment_region : List ℕ → Segment → Region
segment_region bytes s = (s.addr, take (min s.file_size s.mem_size) (drop s.offset bytes))

-- whether a segment is loadable (`PT_LOAD`, gABI)
abbrev pub is_load : Segment → Bool
is_load s = nat_eq s.kind load_kind

-- the load segments of a core, in table order
abbrev pub loads_of : List ℕ → List Segment
loads_of bytes = filter is_load (segments_of bytes)

-- the memory of a core: one piece for each load segment, in table order
abbrev pub memory_of : List ℕ → List Region
memory_of bytes = map (segment_region bytes) (loads_of bytes)

-- the addresses of a segment that have its bytes, and where these stand in the file
abbrev pub range_of : Segment → TableEntry
range_of s = record { start = s.addr; len = min s.file_size s.mem_size; offset = s.offset }

-- the same, in the file of number 0
abbrev pub core_range : Segment → FileRange
core_range s = record { range = range_of s; file = 0 }

-- those of the load segments of a core, in table order
abbrev pub core_ranges : List ℕ → List FileRange
core_ranges bytes = map core_range (loads_of bytes)

-- the addresses that a core's loadable segments have bytes for, in order
abbrev pub ranges_of : List ℕ → List TableEntry
ranges_of bytes = addresses_of (core_ranges bytes)

-- a load segment of a core: its bytes lie in the file, and its memory ends at 2^64 - 1 at most
pub record IsHeld (bytes : List ℕ) (s : Segment) : Type 0 where
  pub inside : IsInside bytes s.offset s.file_size
  pub ends : s.addr + s.mem_size ≤ 2 ^ 64 - 1
