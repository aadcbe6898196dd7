-- Files of segments, by the System V gABI for 64-bit little-endian files: a header of 64 bytes, right behind it a
-- program header of 56 bytes for each segment, and the segments' bytes. That each field which no rule names is 0, the
-- type of the file among them, is this project's own rule.
use Rattle.std.specs.Prelude.{ℕ, ◌+◌, ◌*◌, List, ◌++◌, length, replicate}
use Rattle.std.specs.Int.{w64, w32, w16, to_le_bytes}
use Rattle.std.specs.List.{flat_map}
use Rattle.elf64_core.specs.Header.{identity}
use Rattle.elf64_core.specs.declared.header.Machine.{Machine}
use Rattle.elf64_core.specs.declared.header.Machine.TheVariants.{X86_64, Aarch64, Other}
use Rattle.elf64_core.specs.declared.segment.Segment.{Segment}

-- so many bytes of 0
abbrev pub zeros : ℕ → List ℕ
zeros count = replicate count 0

-- the number of a machine; that of another one than these two is 0, which is that of none
abbrev pub number_of : Machine → ℕ
number_of X86_64 = 62
number_of Aarch64 = 183
number_of Other = 0

-- where the program headers begin
abbrev pub table_start : ℕ
table_start = 64

-- the header of a file with so many segments: what it is, at 18 the machine, at 32 where the program headers begin, and
-- at 54 how long each is and how many there are
unfoldable pub file_header : (machine count : ℕ) → List ℕ
file_header machine count =
    identity ++ zeros 12 ++ to_le_bytes w16 machine ++ zeros 12 ++ to_le_bytes w64 table_start ++ zeros 14
    ++ to_le_bytes w16 56 ++ to_le_bytes w16 count ++ zeros 6

-- the program header of a segment: its kind and flags, at 8 where its bytes begin in the file and its address, and at
-- 32 how many bytes it has in the file and in memory
unfoldable pub program_header : Segment → List ℕ
program_header s =
    to_le_bytes w32 s.kind ++ to_le_bytes w32 s.flags ++ to_le_bytes w64 s.offset ++ to_le_bytes w64 s.addr ++ zeros 8
    ++ to_le_bytes w64 s.file_size ++ to_le_bytes w64 s.mem_size ++ zeros 8

-- the file of some segments, with what stands behind the program headers
unfoldable pub file_of : Machine → List Segment → List ℕ → List ℕ
file_of machine segments contents =
    file_header (number_of machine) (length segments) ++ (flat_map program_header segments ++ contents)

-- where the contents of a file of so many segments begin
abbrev pub contents_start : ℕ → ℕ
contents_start count = table_start + 56 * count
