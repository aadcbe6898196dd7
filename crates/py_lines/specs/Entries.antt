-- The entries of line tables. `Pairs` are those of code objects up to CPython 3.9 and `Ranges` those of 3.10
-- (`Objects/lnotab_notes.txt`), `Locations` those from 3.11 on (`Objects/locations.md`). That a table ends
-- before an entry that is cut, and that an odd last byte is no entry, are this project's rules.
use Rattle.std.specs.Prelude.{ℕ, zero, suc, ◌+◌, ◌-◌, ◌*◌, ◌/◌, ◌%◌, ◌^◌, ◌≤◌, nat_le, nat_lt, ◌==◌, Option, Some, None}
use Rattle.std.specs.Prelude.{List, [], ◌∷◌, if◌then◌else◌, option_map, length, slice_index, drop, ℤ, pos, negsuc, ◌≤ℤ◌}
use Rattle.std.specs.Prelude.{◌<ℤ◌}
use Rattle.std.specs.Ordering.{int_eq}
use Rattle.std.specs.Int.{w8, cast_signed}
use Rattle.py_lines.specs.declared.lines.LineFamily.{LineFamily}
use Rattle.py_lines.specs.declared.lines.LineFamily.TheVariants.{Pairs, Ranges, Locations}
use Rattle.py_lines.specs.declared.entry.Entry.{Entry}
use Rattle.py_lines.specs.declared.entry.LocationLine.{LocationLine}
use Rattle.py_lines.specs.declared.varint.Number.{Number}
use Rattle.py_lines.specs.Varint.{varint, signed_of}

-- two bytes: how many bytes of code, and a signed number, by how much the line moves behind them
abbrev pub pair_of : (covers delta : ℕ) → Entry
pair_of covers delta = record { size = 2; covers = covers; delta = Some (cast_signed w8 delta) }

-- the first entry of a table of pairs of bytes (`co_lnotab`; `co_linetable` of 3.10)
abbrev pub pair_entry : List ℕ → Option Entry
pair_entry table = if nat_lt (length table) 2 then None else Some (pair_of (slice_index table 0) (slice_index table 1))

-- a line delta that says that the code has no line
abbrev pub no_line : ℤ
no_line = negsuc 127

-- a step of lines; -128 says that there is no line (PEP 626)
abbrev pub delta_or_none : Option ℤ → Option ℤ
delta_or_none None = None
delta_or_none (Some d) = if int_eq d no_line then None else Some d

-- the same two bytes, where the line moves in front; a delta of -128 says that there is no line
abbrev pub without_line : Entry → Entry
without_line e = record e { delta = delta_or_none e.delta }

-- the first entry of the `co_linetable` of 3.10
abbrev pub range_entry : List ℕ → Option Entry
range_entry table = option_map without_line (pair_entry table)

-- what a location's number says of its line, which moves by so much
abbrev pub line_moved_by : Number → LocationLine
line_moved_by delta = record { size = delta.size; delta = Some (signed_of delta.value) }

-- where a number ends that begins at an offset
abbrev pub entry_end : List ℕ → ℕ → Option ℕ
entry_end rest at = option_map (λ v. at + v.size) (varint (drop at rest))

-- what goes on with a value, if there is one
infixl 1 ◌>>=◌
abbrev pub ◌>>=◌ : {T U : Type 0} → Option T → (T → Option U) → Option U
None >>= f = None
Some x >>= f = f x

-- a signed delta, and behind it three numbers: the end line and the two columns
abbrev pub long_line : List ℕ → Option LocationLine
long_line rest = do
  delta ← varint rest
  end_line ← entry_end rest delta.size
  column ← entry_end rest end_line
  end_column ← entry_end rest column
  Some (record { size = end_column; delta = Some (signed_of delta.value) })

-- so many bytes more, and a delta
abbrev pub short_line : List ℕ → ℕ → ℕ → Option LocationLine
short_line rest size delta =
    if nat_lt (length rest) size then None else Some (record { size = size; delta = Some (pos delta) })

-- what the bytes behind a location's first say, by its code
abbrev pub location_line : ℕ → List ℕ → Option LocationLine
location_line code rest =
    if code == 15 then Some (record { size = 0; delta = None })
    else if code == 14 then long_line rest
    else if code == 13 then option_map line_moved_by (varint rest)
    else if nat_le 10 code then short_line rest 2 (code - 10)
    else short_line rest 1 0

-- an entry of a location: its first byte has the code in bits 3 to 6, and the units of code less one in bits 0 to 2
abbrev pub location_with : ℕ → LocationLine → Entry
location_with byte line = record { size = 1 + line.size; covers = 2 * (byte % 8 + 1); delta = line.delta }

-- a byte with bit 7, and what its code asks for
abbrev pub location_entry : List ℕ → Option Entry
location_entry [] = None
location_entry (byte ∷ rest) =
    if nat_lt byte 128 then None else option_map (location_with byte) (location_line (byte / 8 % 16) rest)

-- the entry that a table begins with, if it begins with a whole one
unfoldable pub first_entry : LineFamily → List ℕ → Option Entry
first_entry Pairs table = pair_entry table
first_entry Ranges table = range_entry table
first_entry Locations table = location_entry table

-- an entry, where there is one, and those behind it
abbrev pub line_entries_from : Option Entry → (Entry → List Entry) → List Entry
line_entries_from None rest = []
line_entries_from (Some e) rest = e ∷ rest e

-- the entries of a table, one behind the other; each has a byte at least, so there are no more than bytes
unfoldable pub entries_within : ℕ → LineFamily → List ℕ → List Entry
entries_within zero family table = []
entries_within (suc most) family table =
    line_entries_from (first_entry family table) (λ e. entries_within most family (drop e.size table))

-- the entries of a line table, by its family
unfoldable pub entries_of : LineFamily → List ℕ → List Entry
entries_of family table = entries_within (length table) family table

-- a line delta, if there is one, is at most 2^35 either way
abbrev pub IsWithin : Option ℤ → Type 0
IsWithin None = Unit {0}
IsWithin (Some d) = (negsuc (2 ^ 35) <ℤ d) × (d ≤ℤ pos (2 ^ 35))

-- an entry that a table of so many bytes has room for
pub record HasEntryRoom (len : ℕ) (e : Entry) : Type 0 where
  pub begins : 1 ≤ e.size
  pub ends : e.size ≤ len

-- what each entry keeps to
pub record IsSmall (e : Entry) : Type 0 where
  pub covers : e.covers ≤ 255
  pub delta : IsWithin e.delta
