-- The entries of a line table, one behind the other, as CPython's own walk over it has them: pairs of bytes up to 3.10
-- (`Objects/lnotab_notes.txt`), from 3.11 on a byte with bit 7 and all without it that follow (`Objects/locations.md`,
-- and `advance` of `Objects/codeobject.c`). That a table ends before an entry that is cut, and that a number has six
-- bytes at most, are this project's rules.
use Rattle.std.specs.Prelude.{ℕ, zero, suc, ◌+◌, ◌-◌, ◌*◌, ◌/◌, ◌%◌, ◌^◌, ◌≤◌, nat_le, nat_lt, ◌==◌, Option, Some, None}
use Rattle.std.specs.Prelude.{List, [], ◌∷◌, if◌then◌else◌, option_map, length, take, drop, ℤ, pos, negsuc, ◌≤ℤ◌, ◌<ℤ◌}
use Rattle.std.specs.Int.{w8, bit_at, cast_signed}
use Rattle.py_lines.specs.Varint.{signed_of}
use Rattle.frame_lines.specs.declared.entry.Entry.{Entry}
use Rattle.frame_lines.specs.declared.form.TableForm.{TableForm}
use Rattle.frame_lines.specs.declared.form.TableForm.TheVariants.{UnsignedPairs, Pairs, Ranges, Locations}

-- so many bytes of the table, which cover so many bytes of code and move the line by so much; or their code has no line
abbrev pub entry : (size covers : ℕ) → Option ℤ → Entry
entry size covers delta = record { size = size; covers = covers; delta = delta }

-- the step of a pair; in 3.10 the byte of -128 says that there is no line
abbrev pub pair_step : TableForm → ℕ → Option ℤ
pair_step UnsignedPairs byte = Some (pos byte)
pair_step Pairs byte = Some (cast_signed w8 byte)
pair_step Ranges byte = if byte == 128 then None else Some (cast_signed w8 byte)
pair_step Locations byte = Some (cast_signed w8 byte)

-- the first entry of a table of pairs of bytes (`co_lnotab`; `co_linetable` of 3.10)
abbrev pub pair_entry : TableForm → List ℕ → Option Entry
pair_entry form [] = None
pair_entry form (covers ∷ []) = None
pair_entry form (covers ∷ (step ∷ rest)) = Some (entry 2 covers (pair_step form step))

-- how many bytes have no bit 7, up to the first that has it
unfoldable pub tail_len : List ℕ → ℕ
tail_len [] = 0
tail_len (byte ∷ bytes) = if nat_lt byte 128 then 1 + tail_len bytes else 0

-- the number that begins the bytes, if it ends within so many: six bits of each, the lowest first, and bit 6 in each
-- but the last
abbrev pub number_within : ℕ → List ℕ → Option ℕ
number_within zero bytes = None
number_within (suc most) [] = None
number_within (suc most) (byte ∷ bytes) =
    if bit_at byte 6 == 0
    then Some (byte % 64)
    else option_map (λ high. byte % 64 + 64 * high) (number_within most bytes)

-- by how much a location moves the line, by its code and the bytes behind its first; none where its code has no line
abbrev pub location_step : ℕ → List ℕ → Option (Option ℤ)
location_step code tail =
    if code == 15 then Some None
    else if nat_le 13 code then option_map (λ n. Some (signed_of n)) (number_within 6 tail)
    else if nat_le 10 code then Some (Some (pos (code - 10)))
    else Some (Some (pos 0))

-- a location: its first byte has the code in bits 3 to 6, and the units of two bytes of code less one in bits 0 to 2
abbrev pub location_entry : List ℕ → Option Entry
location_entry [] = None
location_entry (byte ∷ rest) =
    if nat_lt byte 128 then None
    else option_map (entry (1 + tail_len rest) (2 * (byte % 8 + 1)))
    (location_step (byte / 8 % 16) (take (tail_len rest) rest))

-- the entry that a table begins with, if it begins with a whole one
unfoldable pub first_entry : TableForm → List ℕ → Option Entry
first_entry UnsignedPairs table = pair_entry UnsignedPairs table
first_entry Pairs table = pair_entry Pairs table
first_entry Ranges table = pair_entry Ranges table
first_entry Locations table = location_entry table

-- an entry, where there is one, and those behind it
abbrev pub entries_from : Option Entry → (Entry → List Entry) → List Entry
entries_from None rest = []
entries_from (Some e) rest = e ∷ rest e

-- the entries of a table; each has a byte at least, so there are no more than bytes
unfoldable pub entries_within : ℕ → TableForm → List ℕ → List Entry
entries_within zero form table = []
entries_within (suc most) form table =
    entries_from (first_entry form table) (λ e. entries_within most form (drop e.size table))

-- the entries of a line table
unfoldable pub entries_of : TableForm → List ℕ → List Entry
entries_of form table = entries_within (length table) form table

-- a step is at most 2^35 either way
abbrev pub IsStep : Option ℤ → Type 0
IsStep None = Unit {0}
IsStep (Some d) = (negsuc (2 ^ 35) <ℤ d) × (d ≤ℤ pos (2 ^ 35))

-- an entry that a table of so many bytes has room for
pub record HasRoom (len : ℕ) (e : Entry) : Type 0 where
  pub begins : 1 ≤ e.size
  pub ends : e.size ≤ len

-- what each entry keeps to
pub record IsSmall (e : Entry) : Type 0 where
  pub covers : e.covers ≤ 255
  pub delta : IsStep e.delta
