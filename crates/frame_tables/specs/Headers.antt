-- The header of a table of entries, by the LSB's page on `.eh_frame_hdr`: the segment PT_GNU_EH_FRAME. That one form
-- alone is read, which is the one that linkers write, is this project's rule.
use Rattle.std.specs.Prelude.{◌≡◌, ℕ, ◌+◌, ◌-◌, ◌*◌, ◌≤◌, nat_lt, nat_eq, ◌==◌, Bool, List, slice_index_or}
use Rattle.std.specs.Prelude.{if◌then◌else◌}
use Rattle.std.specs.Prelude.{Option, Some, None, Result, Ok, Err, ◌⊎◌}
use Rattle.std.specs.List.{find}
use Rattle.elf64_core.specs.Fields.{u32_in}
use Rattle.elf64_core.specs.Header.{IsElf64, HasSegments, IsAccepted, segments_of, machine_of}
use Rattle.elf64_core.specs.declared.header.Machine.{Machine as ElfMachine}
use Rattle.elf64_core.specs.declared.header.Machine.TheVariants.{X86_64 as ElfX86_64, Aarch64 as ElfAarch64}
use Rattle.elf64_core.specs.declared.header.Machine.TheVariants.{Other as ElfOther}
use Rattle.elf64_core.specs.declared.segment.Segment.{Segment}
use Rattle.frame_rows.specs.declared.row.Machine.{Machine}
use Rattle.frame_rows.specs.declared.row.Machine.TheVariants.{X86_64, Aarch64}
use Rattle.frame_tables.specs.declared.flaw.TableError.{TableError}
use Rattle.frame_tables.specs.declared.flaw.TableError.TheVariants.{NotElf, BadHeaders, OtherMachine, NoHeader}
use Rattle.frame_tables.specs.declared.flaw.TableError.TheVariants.{NotInFile}
use Rattle.frame_tables.specs.declared.flaw.TableError.TheVariants.{Cut, Version, FrameEncoding, CountEncoding}
use Rattle.frame_tables.specs.declared.flaw.TableError.TheVariants.{PairEncoding}
use Rattle.frame_tables.specs.declared.header.Heading.{Heading}
use Rattle.frame_tables.specs.declared.header.Pair.{Pair}
use Rattle.frame_tables.specs.declared.part.Part.{Part}
use Rattle.frame_tables.specs.Parts.{part_at}
use Rattle.frame_tables.specs.Fields.{relative}

-- the machine of an ELF file, where its frames are read
abbrev pub machine_for : ElfMachine → Option Machine
machine_for ElfX86_64 = Some X86_64
machine_for ElfAarch64 = Some Aarch64
machine_for ElfOther = None

-- the machine of a file, if its frames are read
abbrev pub frame_machine : List ℕ → Option Machine
frame_machine file = machine_for (machine_of file)

-- the kind of PT_GNU_EH_FRAME
abbrev pub is_header : Segment → Bool
is_header s = nat_eq s.kind 0x6474e550

-- the version and the three encodings
abbrev pub coded : List ℕ → ℕ → Result (Unit {0}) TableError
coded file at =
    if slice_index_or file at 0 == 1 then
    if slice_index_or file (at + 1) 0 == 27 then
    if slice_index_or file (at + 2) 0 == 3 then
    if slice_index_or file (at + 3) 0 == 59 then Ok tt
    else Err (PairEncoding (slice_index_or file (at + 3) 0))
    else Err (CountEncoding (slice_index_or file (at + 2) 0))
    else Err (FrameEncoding (slice_index_or file (at + 1) 0))
    else Err (Version (slice_index_or file at 0))

-- what goes on with a value that was read
abbrev pub table_then : {T U : Type 0} → Result T TableError → (T → Result U TableError) → Result U TableError
table_then (Ok x) f = f x
table_then (Err error) f = Err error

-- so many pairs of eight bytes
abbrev pub counted : Machine → ℕ → Part → ℕ → Result Heading TableError
counted machine address p count =
    if nat_lt (p.end - (p.start + 12)) (8 * count) then Err Cut
    else Ok (record { machine = machine; address = address; pairs = p.start + 12; count = count })

-- a header that begins a part of the file
abbrev pub heading_in : List ℕ → Machine → ℕ → Part → Result Heading TableError
heading_in file machine address p =
    if nat_lt (p.end - p.start) 12 then Err Cut
    else table_then (coded file p.start) (λ u. counted machine address p (u32_in file (p.start + 8)))

-- the header at an address, where the file has its bytes
abbrev pub heading_at : List ℕ → Machine → ℕ → Option Part → Result Heading TableError
heading_at file machine address None = Err NotInFile
heading_at file machine address (Some p) = heading_in file machine address p

-- what the header in a PT_GNU_EH_FRAME segment says, where the file has one
abbrev pub heading_by : List ℕ → Machine → Option Segment → Result Heading TableError
heading_by file machine None = Err NoHeader
heading_by file machine (Some s) = heading_at file machine s.addr (part_at file s.addr)

-- what the header of a file of this machine says, where its frames are read
abbrev pub heading_for : List ℕ → Option Machine → Result Heading TableError
heading_for file None = Err OtherMachine
heading_for file (Some machine) = heading_by file machine (find is_header (segments_of file))

-- what the header of a file says
abbrev pub heading_of : List ℕ → Result Heading TableError
heading_of file = heading_for file (frame_machine file)

-- the file has all pairs
pub record HasPairs (size : ℕ) (h : Heading) : Type 0 where
  pub inside : h.pairs + 8 * h.count ≤ size

-- the pair of a number: both are relative to the header
abbrev pub pair_at : List ℕ → Heading → ℕ → Pair
pair_at file h number = record {
  first = relative h.address (u32_in file (h.pairs + 8 * number));
  place = relative h.address (u32_in file (h.pairs + 8 * number + 4));
}

-- ---- a file's table

-- the file itself, where its header can be read
abbrev pub opened : List ℕ → Result Heading TableError → Result (List ℕ) TableError
opened file (Ok h) = Ok file
opened file (Err error) = Err error

-- the table of a file, or why it has none: it is no ELF file, or its headers don't lie in it, or what its table's
-- header says
abbrev pub Opens : List ℕ → Result (List ℕ) TableError → Type 0
Opens file result =
    ((¬ IsElf64 file) × (result ≡ Err NotElf))
    ⊎ ((IsElf64 file × (¬ HasSegments file) × (result ≡ Err BadHeaders))
    ⊎ (IsAccepted file × (result ≡ opened file (heading_of file))))
