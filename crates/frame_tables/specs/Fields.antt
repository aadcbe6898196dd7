-- Fields of a record, by where they begin in it. What is read there is a number of so many bytes, or of LEB128, as
-- DWARF 5 has them in section 7.6; or the record ends before it.
use Rattle.std.specs.Prelude.{ℕ, ◌+◌, ◌-◌, ◌%◌, ◌^◌, nat_lt, nat_le, List, length, drop, slice_index_or}
use Rattle.std.specs.Prelude.{if◌then◌else◌}
use Rattle.std.specs.Prelude.{Result, Ok, Err}
use Rattle.elf64_core.specs.Fields.{u32_in}
use Rattle.frame_rows.specs.Numbers.{unsigned_in, signed_in}
use Rattle.frame_rows.specs.declared.number.Flaw.{Flaw}
use Rattle.frame_rows.specs.declared.number.Flaw.TheVariants.{Cut as CutNumber}
use Rattle.frame_rows.specs.declared.number.Number.{Number}
use Rattle.frame_rows.specs.declared.number.SignedNumber.{SignedNumber}
use Rattle.frame_tables.specs.declared.field.Field.{Field}
use Rattle.frame_tables.specs.declared.field.SignedField.{SignedField}
use Rattle.frame_tables.specs.declared.part.Part.{Part}
use Rattle.frame_tables.specs.declared.flaw.RecordFlaw.{RecordFlaw}
use Rattle.frame_tables.specs.declared.flaw.RecordFlaw.TheVariants.{Cut, LongNumber}

-- a number of four bytes with a sign, as a word of two's complement
abbrev pub extended : ℕ → ℕ
extended number = if nat_lt number 0x80000000 then number else number + 0xffffffff00000000

-- the address that is so far from another one
abbrev pub relative : (base number : ℕ) → ℕ
relative base number = (base + extended number) % 2 ^ 64

-- what goes on with a value that was read
abbrev pub read_then : {T U : Type 0} → Result T RecordFlaw → (T → Result U RecordFlaw) → Result U RecordFlaw
read_then (Ok x) f = f x
read_then (Err flaw) f = Err flaw

-- a flaw of a number as one of its record: it is cut, or too long
abbrev pub record_flaw : Flaw → RecordFlaw
record_flaw CutNumber = Cut
record_flaw other = LongNumber

-- the byte at a place of a record
abbrev pub byte_at : List ℕ → ℕ → Result ℕ RecordFlaw
byte_at body at = if nat_le (length body) at then Err Cut else Ok (slice_index_or body at 0)

-- the four bytes at a place of a record as a number, the lowest first
abbrev pub u32_at : List ℕ → ℕ → Result ℕ RecordFlaw
u32_at body at = if nat_lt (length body) (at + 4) then Err Cut else Ok (u32_in body at)

-- a number that was read at a place, and where the next field begins
abbrev pub field_of : ℕ → Result Number Flaw → Result Field RecordFlaw
field_of at (Ok n) = Ok (record { value = n.value; next = at + n.size })
field_of at (Err flaw) = Err (record_flaw flaw)

-- the unsigned LEB128 number at a place of a record
abbrev pub unsigned_at : List ℕ → ℕ → Result Field RecordFlaw
unsigned_at body at = field_of at (unsigned_in (drop at body))

-- a number with a sign that was read at a place, and where the next field begins
abbrev pub signed_field_of : ℕ → Result SignedNumber Flaw → Result SignedField RecordFlaw
signed_field_of at (Ok n) = Ok (record { value = n.value; next = at + n.size })
signed_field_of at (Err flaw) = Err (record_flaw flaw)

-- the signed LEB128 number at a place of a record
abbrev pub signed_at : List ℕ → ℕ → Result SignedField RecordFlaw
signed_at body at = signed_field_of at (signed_in (drop at body))

-- so many bytes behind a number, where the record has them
abbrev pub block_behind : ℕ → Field → Result Part RecordFlaw
block_behind length size =
    if nat_lt (length - size.next) size.value then Err Cut
    else Ok (record { start = size.next; end = size.next + size.value })

-- a number that says how many bytes there are behind it: these
abbrev pub block_at : List ℕ → ℕ → Result Part RecordFlaw
block_at body at = read_then (unsigned_at body at) (block_behind (length body))
