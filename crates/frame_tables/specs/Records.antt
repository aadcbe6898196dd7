-- Records of `.eh_frame`, by the LSB's page on exception frames. That a record has at most 2^20 bytes, and none whose
-- length has 64 bits is read, are this project's rules. The size of what an entry covers has no sign.
use Rattle.std.specs.Prelude.{ℕ, ◌+◌, ◌-◌, ◌%◌, ◌^◌, nat_lt, nat_le, ◌==◌, Bool, true, false, List, slice_range}
use Rattle.std.specs.Prelude.{if◌then◌else◌, Option, Some, None, Result, Ok, Err}
use Rattle.elf64_core.specs.Fields.{u32_in}
use Rattle.frame_rows.specs.declared.row.Machine.{Machine}
use Rattle.frame_tables.specs.declared.common.Common.{Common}
use Rattle.frame_tables.specs.declared.flaw.RecordFlaw.{RecordFlaw}
use Rattle.frame_tables.specs.declared.flaw.RecordFlaw.TheVariants.{NotInFile, Cut, Terminator, Wide, Long, NoEntry}
use Rattle.frame_tables.specs.declared.flaw.RecordError.{RecordError}
use Rattle.frame_tables.specs.declared.part.Part.{Part}
use Rattle.frame_tables.specs.declared.record.Entry.{Entry}
use Rattle.frame_tables.specs.declared.record.Extent.{Extent}
use Rattle.frame_tables.specs.declared.record.Placed.{Placed}
use Rattle.frame_tables.specs.Parts.{part_at, IsWithin}
use Rattle.frame_tables.specs.Fields.{read_then, relative, u32_at, block_at}
use Rattle.frame_tables.specs.Commons.{common_in}

-- ---- the bytes of a record

-- so many bytes behind the length
abbrev pub sized : Part → ℕ → Result Part RecordFlaw
sized p size =
    if size == 0 then Err Terminator
    else if nat_le 0xfffffff0 size then Err Wide
    else if nat_lt 0x100000 size then Err Long
    else if nat_lt (p.end - (p.start + 4)) size then Err Cut
    else Ok (record { start = p.start + 4; end = p.start + 4 + size })

-- a part of the file that begins with a length
abbrev pub body_in : List ℕ → Part → Result Part RecordFlaw
body_in file p = if nat_lt (p.end - p.start) 4 then Err Cut else sized p (u32_in file p.start)

-- the bytes of a record behind its length, where the file has it
abbrev pub body_at : List ℕ → Option Part → Result Part RecordFlaw
body_at file None = Err NotInFile
body_at file (Some p) = body_in file p

-- the record at an address
abbrev pub record_at : List ℕ → ℕ → Result Part RecordFlaw
record_at file address = body_at file (part_at file address)

-- the bytes of a part of the file
abbrev pub bytes_of : List ℕ → Part → List ℕ
bytes_of file p = slice_range file p.start p.end

-- ---- a common information entry

-- a common information entry, and where in the file its initial instructions stand
abbrev pub placed_in : Part → Common → Result Placed RecordFlaw
placed_in body common =
    Ok (record { common = common; initial = record { start = body.start + common.said.end; end = body.end } })

-- the common information entry at an address
abbrev pub common_at : List ℕ → ℕ → Result Placed RecordFlaw
common_at file address =
    read_then (record_at file address) (λ body. read_then (common_in (bytes_of file body)) (placed_in body))

-- ---- the entry of a function

-- where its own instructions begin
abbrev pub own_start : List ℕ → Bool → Result ℕ RecordFlaw
own_start body false = Ok 12
own_start body true = read_then (block_at body 12) (λ block. Ok block.end)

-- its first address: relative to the place where it stands, or as it stands
abbrev pub begin_of : (encoding at first : ℕ) → ℕ
begin_of encoding at first = if encoding == 27 then relative ((at + 8) % 2 ^ 64) first else first

-- what a function's entry covers, and where its own instructions begin
abbrev pub extent_in : List ℕ → ℕ → Common → Result Extent RecordFlaw
extent_in body at common =
    read_then (u32_at body 4) (λ first.
    read_then (u32_at body 8) (λ size.
    read_then (own_start body common.said.is_sized) (λ start.
    Ok (record { begin = begin_of common.said.encoding at first; size = size; start = start }))))

-- the entry at an address, of these parts
abbrev pub entry_of : Machine → ℕ → Part → Placed → Extent → Entry
entry_of machine at body p extent = record {
  at = at;
  begin = extent.begin;
  size = extent.size;
  convention = record { machine = machine; code = p.common.factors.code; factor = p.common.factors.factor };
  return_register = p.common.factors.register;
  is_signal = p.common.said.is_signal;
  initial = p.initial;
  own = record { start = body.start + extent.start; end = body.end };
}

-- the entry by the bytes of its record and its common information entry
abbrev pub entry_in : List ℕ → Machine → ℕ → Part → Placed → Result Entry RecordFlaw
entry_in file machine at body p =
    read_then (extent_in (bytes_of file body) at p.common) (λ extent. Ok (entry_of machine at body p extent))

-- the id of an entry: how far before it its common information entry is. 0 is the id of such a one itself
abbrev pub id_in : List ℕ → Result ℕ RecordFlaw
id_in body = read_then (u32_at body 0) (λ id. if id == 0 then Err NoEntry else Ok id)

-- a flaw of the record at an address
abbrev pub located : {T : Type 0} → ℕ → Result T RecordFlaw → Result T RecordError
located at (Ok x) = Ok x
located at (Err flaw) = Err (record { at = at; flaw = flaw })

-- what goes on with a value that was read
abbrev pub placed_then : {T U : Type 0} → Result T RecordError → (T → Result U RecordError) → Result U RecordError
placed_then (Ok x) f = f x
placed_then (Err error) f = Err error

-- the address of the common information entry that an entry with an id names: so far before the id
abbrev pub common_of : (at id : ℕ) → ℕ
common_of at id = ((at + 4) % 2 ^ 64 + (2 ^ 64 - id)) % 2 ^ 64

-- the entry by its id, where its common information entry can be read
abbrev pub entry_behind : List ℕ → Machine → ℕ → Part → ℕ → Result Entry RecordError
entry_behind file machine at body id =
    placed_then (located (common_of at id) (common_at file (common_of at id))) (λ p.
    located at (entry_in file machine at body p))

-- the entry at an address
abbrev pub entry_at : List ℕ → Machine → ℕ → Result Entry RecordError
entry_at file machine at =
    placed_then (located at (record_at file at)) (λ body.
    placed_then (located at (id_in (bytes_of file body))) (entry_behind file machine at body))

-- its instructions are parts of the file
pub record Fits (size : ℕ) (entry : Entry) : Type 0 where
  pub initial : IsWithin size entry.initial
  pub own : IsWithin size entry.own
