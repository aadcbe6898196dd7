-- The header of an ELF64 file and its program headers, by the System V gABI, for 64-bit little-endian
-- files. What a file must be to be read at all is stricter than the gABI: each part that may be read later
-- lies in the file, so that nothing is found missing then.
use Rattle.std.specs.Prelude.{◌≡◌, ◌≢◌, ◌⊎◌, ℕ, zero, suc, ◌+◌, ◌-◌, ◌*◌, ◌≤◌, ◌^◌, nat_eq, if◌then◌else◌, List, []}
use Rattle.std.specs.Prelude.{◌∷◌, length, take, All}
use Rattle.elf64_core.specs.Fields.{u64_in, u32_in, u16_in}
use Rattle.elf64_core.specs.Offsets.{e_machine, e_phentsize, e_phnum, e_phoff, p_filesz, p_flags, p_memsz, p_offset}
use Rattle.elf64_core.specs.Offsets.{p_vaddr}
use Rattle.elf64_core.specs.declared.segment.Segment.{Segment}
use Rattle.elf64_core.specs.declared.header.Machine.{Machine}
use Rattle.elf64_core.specs.declared.header.Machine.TheVariants.{X86_64, Aarch64, Other}

-- the first six bytes: the magic number, 64 bits, the lowest byte first
abbrev pub identity : List ℕ
identity = 127 ∷ 69 ∷ 76 ∷ 70 ∷ 2 ∷ 1 ∷ []

-- a file that begins with such a header, which has 64 bytes
pub record IsElf64 (bytes : List ℕ) : Type 0 where
  pub whole : 64 ≤ length bytes
  pub begins : take 6 bytes ≡ identity

-- where the program headers are, how long each is, and how many there are
abbrev pub program_table : List ℕ → ℕ
program_table bytes = u64_in bytes e_phoff

-- `e_phentsize`, the length of a program header (gABI, "ELF Header")
abbrev pub entry_size : List ℕ → ℕ
entry_size bytes = u16_in bytes e_phentsize

-- `e_phnum`, how many program headers there are (gABI, "ELF Header")
abbrev pub segment_count : List ℕ → ℕ
segment_count bytes = u16_in bytes e_phnum

-- the machine that the header names
abbrev pub machine_named : ℕ → Machine
machine_named number = if nat_eq number 62 then X86_64 else (if nat_eq number 183 then Aarch64 else Other)

-- the machine that the header names by `e_machine` (gABI, "ELF Header")
abbrev pub machine_of : List ℕ → Machine
machine_of bytes = machine_named (u16_in bytes e_machine)

-- the segment that the program header at an offset describes
unfoldable pub segment_in : List ℕ → ℕ → Segment
segment_in bytes at = record {
  kind = u32_in bytes at;
  flags = u32_in bytes (at + p_flags);
  offset = u64_in bytes (at + p_offset);
  addr = u64_in bytes (at + p_vaddr);
  file_size = u64_in bytes (at + p_filesz);
  mem_size = u64_in bytes (at + p_memsz);
}

-- those of program headers that follow each other, 56 bytes each
unfoldable pub segments_from : List ℕ → (at count : ℕ) → List Segment
segments_from bytes at zero = []
segments_from bytes at (suc count) = segment_in bytes at ∷ segments_from bytes (at + 56) count

-- all segments, in table order
abbrev pub segments_of : List ℕ → List Segment
segments_of bytes = segments_from bytes (program_table bytes) (segment_count bytes)

-- a range of the file; one of no bytes lies in it wherever it begins
abbrev pub IsInside : List ℕ → (start size : ℕ) → Type 0
IsInside bytes start size = (size ≡ 0) ⊎ (start + size ≤ length bytes)

-- `PT_LOAD`, the type of a loadable segment (gABI, "Program Header")
abbrev pub load_kind : ℕ
load_kind = 1

-- `PT_NOTE`, the type of a segment of notes (gABI, "Program Header")
abbrev pub note_kind : ℕ
note_kind = 4

-- the bytes of a load or note segment lie in the file, and a load segment's memory ends at 2^64 - 1 at most
pub record FitsFile (bytes : List ℕ) (segment : Segment) : Type 0 where
  pub loaded : segment.kind ≡ load_kind → IsInside bytes segment.offset segment.file_size
  pub noted : segment.kind ≡ note_kind → IsInside bytes segment.offset segment.file_size
  pub mapped : segment.kind ≡ load_kind → segment.addr + segment.mem_size ≤ 2 ^ 64 - 1

-- program headers that can be read: they are counted by the header itself and lie in the file
pub record HasProgramTable (bytes : List ℕ) : Type 0 where
  pub counted : segment_count bytes ≢ 0xffff
  pub sized : (segment_count bytes ≡ 0) ⊎ (entry_size bytes ≡ 56)
  pub inside : IsInside bytes (program_table bytes) (56 * segment_count bytes)

-- a file whose program headers, and the segments that they describe, can be read
pub record HasSegments (bytes : List ℕ) : Type 0 where
  pub table : HasProgramTable bytes
  pub segments : All (FitsFile bytes) (segments_of bytes)

-- a file that is accepted
pub record IsAccepted (bytes : List ℕ) : Type 0 where
  pub header : IsElf64 bytes
  pub readable : HasSegments bytes
