-- How ranges are written as a table, in the forms that `Entries` reads. Which of the tables that say the same is
-- written, is this project's own rule: each number that is beyond what an entry holds is cut, all parts but the
-- last as great as they can be.
use Rattle.std.specs.Prelude.{◌≡◌, ℕ, zero, suc, ◌+◌, ◌-◌, ◌*◌, ◌/◌, ◌%◌, ◌^◌, ◌<◌, ◌≤◌, nat_lt, ◌==◌, ◌&&◌, Bool, true}
use Rattle.std.specs.Prelude.{Option, Some, None, List, [], ◌∷◌, ◌++◌, if◌then◌else◌, option_map, length, ℤ, pos}
use Rattle.std.specs.Prelude.{negsuc, neg_ℤ, ◌-ℤ◌, ◌≤ℤ◌, IsTrue}
use Rattle.std.specs.Option.{is_some, unwrap_or}
use Rattle.std.specs.Int.{w8, w32, cast_unsigned}
use Rattle.std.specs.Int.RustNames.{FitsSigned}
use Rattle.py_lines.specs.declared.lines.LineFamily.{LineFamily}
use Rattle.py_lines.specs.declared.lines.LineFamily.TheVariants.{Pairs, Ranges, Locations}
use Rattle.py_lines.specs.declared.lines.LineRange.{LineRange}
use Rattle.py_lines.specs.Lines.{ranges_of, line_of}
use Rattle.py_lines.specs.declared.runs.Run.{Run}
use Rattle.py_lines.specs.declared.runs.Parts.{Parts}
use Rattle.py_lines.specs.declared.error.EncodeError.{EncodeError}
use Rattle.py_lines.specs.declared.error.EncodeError.TheVariants.{NotOrdered, TooLong, OutOfMemory}

-- ---- which ranges can be written

-- what a family asks of a range: `Locations` count units of 2 bytes, and `Pairs` know no code without a line
abbrev pub has_form : LineFamily → LineRange → Bool
has_form Pairs r = is_some r.line
has_form Ranges r = true
has_form Locations r = (r.end - r.start) % 2 == 0

-- whether a range can stand behind an offset: it begins there, isn't empty, and ends by 2^31 - 1
abbrev pub can_stand : LineFamily → ℕ → LineRange → Bool
can_stand family at r = r.start == at && nat_lt r.start r.end && nat_lt r.end (2 ^ 31) && has_form family r

-- the index of the first range that can't stand behind the one before it, or the first of all at an offset
unfoldable pub first_unordered : LineFamily → ℕ → List LineRange → Option ℕ
first_unordered family at [] = None
first_unordered family at (r ∷ rs) =
    if can_stand family at r then option_map (λ k. 1 + k) (first_unordered family r.end rs) else Some 0

-- the offset behind the last range, or the first offset where there is none
unfoldable pub end_of : ℕ → List LineRange → ℕ
end_of at [] = at
end_of at (r ∷ rs) = end_of r.end rs

-- ---- numbers in parts

-- how often `most` is taken off a number while it is beyond that
abbrev pub wholes : ℕ → ℕ → ℕ
wholes most n = (n - 1) / most

-- what is left of the number then
abbrev pub rest_of : ℕ → ℕ → ℕ
rest_of most n = n - most * wholes most n

-- a delta in parts of at most 127 upwards, or of at most `low` downwards
abbrev pub parts_of : ℕ → ℤ → Parts
parts_of low (pos n) = record { wholes = wholes 127 n; whole = pos 127; last = pos (rest_of 127 n) }
parts_of low (negsuc n) = record {
  wholes = wholes low (suc n);
  whole = neg_ℤ (pos low);
  last = neg_ℤ (pos (rest_of low (suc n)));
}

-- ---- entries

-- so many equal entries of a line table, each of which covers so many bytes and steps by so many lines
abbrev pub run_of : ℕ → ℕ → Option ℤ → Run
run_of times covers delta = record { times = times; covers = covers; delta = delta }

-- `Pairs`: the code since the range before began, in pieces that leave the line; with the last of them goes the
-- first part of the delta, and the other parts cover no code
abbrev pub pair_runs : ℕ → Parts → List Run
pair_runs len parts =
    run_of (wholes 255 len) 255 (Some (pos 0))
    ∷ run_of (if parts.wholes == 0 then 0 else 1) (rest_of 255 len) (Some parts.whole)
    ∷ run_of (parts.wholes - 1) 0 (Some parts.whole)
    ∷ run_of 1 (if parts.wholes == 0 then rest_of 255 len else 0) (Some parts.last) ∷ []

-- the later families: parts of the delta that cover no code, and the range's code in pieces of at most so many bytes,
-- of which the first has the last part, or else says that there is no line
abbrev pub piece_runs : ℕ → ℕ → Run → Option ℤ → Option ℤ → List Run
piece_runs most len parts first later =
    parts
    ∷ run_of (if wholes most len == 0 then 0 else 1) most first
    ∷ run_of (wholes most len - 1) most later
    ∷ run_of 1 (rest_of most len) (if wholes most len == 0 then first else later) ∷ []

-- no entry
abbrev pub no_run : Run
no_run = run_of 0 0 (Some (pos 0))

-- the parts of a delta but for the last, as entries that cover no code
abbrev pub climbs_of : Parts → Run
climbs_of parts = run_of parts.wholes 0 (Some parts.whole)

-- what is written for so many bytes of code with a delta, or without a line
abbrev pub runs_of : LineFamily → ℕ → Option ℤ → List Run
runs_of Pairs len delta = pair_runs len (parts_of 128 (unwrap_or delta (pos 0)))
runs_of Ranges len None = piece_runs 255 len no_run None None
runs_of Ranges len (Some d) =
    piece_runs 255 len (climbs_of (parts_of 127 d)) (Some (parts_of 127 d).last) (Some (pos 0))
runs_of Locations len None = piece_runs 16 len no_run None None
runs_of Locations len (Some d) = piece_runs 16 len no_run (Some d) (Some (pos 0))

-- ---- bytes

-- the bytes of a number, six bits in each but the last, which has what is left after at most so many
abbrev pub varint_bytes : ℕ → ℕ → List ℕ
varint_bytes zero n = n ∷ []
varint_bytes (suc most) n = if nat_lt n 64 then n ∷ [] else (64 + n % 64) ∷ varint_bytes most (n / 64)

-- twice the magnitude, and one more where it is negative
abbrev pub signed_code : ℤ → ℕ
signed_code (pos n) = 2 * n
signed_code (negsuc n) = 2 * (suc n) + 1

-- the byte of a delta; -128 stands for no line
abbrev pub delta_byte : Option ℤ → ℕ
delta_byte None = 128
delta_byte (Some d) = cast_unsigned w8 d

-- the first byte of a location: bit 7, its code, and its units less one
abbrev pub location_head : ℕ → ℕ → ℕ
location_head code covers = 128 + 8 * code + (covers / 2 - 1)

-- the bytes of an entry: in `Locations` by code 13 with a delta, or by code 15
abbrev pub location_bytes : ℕ → Option ℤ → List ℕ
location_bytes covers None = location_head 15 covers ∷ []
location_bytes covers (Some d) = location_head 13 covers ∷ varint_bytes 5 (signed_code d)

-- the bytes of an entry of a line table, by its family
abbrev pub entry_bytes : LineFamily → ℕ → Option ℤ → List ℕ
entry_bytes Pairs covers delta = covers ∷ delta_byte delta ∷ []
entry_bytes Ranges covers delta = covers ∷ delta_byte delta ∷ []
entry_bytes Locations covers delta = location_bytes covers delta

-- some bytes so many times
unfoldable pub repeated : ℕ → List ℕ → List ℕ
repeated zero bytes = []
repeated (suc times) bytes = bytes ++ repeated times bytes

-- the bytes of a run of equal entries
abbrev pub run_bytes : LineFamily → Run → List ℕ
run_bytes family r = repeated r.times (entry_bytes family r.covers r.delta)

-- the bytes of runs, one after the other
unfoldable pub runs_bytes : LineFamily → List Run → List ℕ
runs_bytes family [] = []
runs_bytes family (r ∷ rs) = run_bytes family r ++ runs_bytes family rs

-- ---- the table

-- the step from a line to the next one, which may be none
abbrev pub delta_from : ℤ → Option ℤ → Option ℤ
delta_from line None = None
delta_from line (Some next) = Some (next -ℤ line)

-- how many bytes of code a range's entries cover: in `Pairs` those since the range before began
abbrev pub covered_by : LineFamily → ℕ → LineRange → ℕ
covered_by Pairs last r = r.start - last
covered_by Ranges last r = r.end - r.start
covered_by Locations last r = r.end - r.start

-- the bytes of ranges behind one that began at an offset; a range without a line leaves the running line
unfoldable pub coded_behind : LineFamily → ℕ → ℤ → List LineRange → List ℕ
coded_behind family last line [] = []
coded_behind family last line (r ∷ rs) =
    runs_bytes family (runs_of family (covered_by family last r) (delta_from line r.line))
    ++ coded_behind family r.start (unwrap_or r.line line) rs

-- the table of ranges of code whose first line is this
unfoldable pub coded : LineFamily → ℤ → List LineRange → List ℕ
coded family first rs = coded_behind family 0 first rs

-- ---- what is answered

-- the table of ranges that can all stand where they do
pub record IsCoding (family : LineFamily) (first : ℤ) (rs : List LineRange) (table : List ℕ) : Type 0 where
  pub ordered : first_unordered family 0 rs ≡ None
  pub bytes : table ≡ coded family first rs
  pub short : length table < 65536

-- the table has the line of the ranges at each offset below the last end
abbrev pub KeepsLines : LineFamily → ℤ → List LineRange → List ℕ → Type 0
KeepsLines family first rs table =
    (offset : ℕ) → offset < end_of 0 rs
    → line_of (ranges_of family first table) (pos offset) ≡ line_of rs (pos offset)

-- why ranges have no table
abbrev pub IsRefusal : LineFamily → ℤ → List LineRange → EncodeError → Type 0
IsRefusal family first rs (NotOrdered index) = first_unordered family 0 rs ≡ Some index
IsRefusal family first rs TooLong = (first_unordered family 0 rs ≡ None) × (65536 ≤ length (coded family first rs))
IsRefusal family first rs OutOfMemory = first_unordered family 0 rs ≡ None

-- why so many bytes have no room
abbrev pub IsNoRoom : EncodeError → ℕ → Type 0
IsNoRoom (NotOrdered index) len = ⊥
IsNoRoom TooLong len = 65536 ≤ len
IsNoRoom OutOfMemory len = Unit {0}

-- why a table has no room for some bytes more
abbrev pub HasNoRoom : EncodeError → List ℕ → List ℕ → Type 0
HasNoRoom e table bytes = IsNoRoom e (length table + length bytes)

-- ---- what an entry can hold

-- a delta that a signed byte holds; with none, -128 stands for it in `Ranges` alone
abbrev pub IsPart : LineFamily → ℕ → Option ℤ → Type 0
IsPart Pairs covers None = ⊥
IsPart Pairs covers (Some d) = (covers ≤ 255) × (negsuc 127 ≤ℤ d) × (d ≤ℤ pos 127)
IsPart Ranges covers None = covers ≤ 255
IsPart Ranges covers (Some d) = (covers ≤ 255) × (negsuc 126 ≤ℤ d) × (d ≤ℤ pos 127)
IsPart Locations covers None = (covers ≤ 16) × (1 ≤ covers) × (covers % 2 ≡ 0)
IsPart Locations covers (Some d) =
    (covers ≤ 16) × (1 ≤ covers) × (covers % 2 ≡ 0) × (negsuc (2 ^ 33) ≤ℤ d) × (d ≤ℤ pos (2 ^ 33))

-- the deltas that lie between lines of 32 bits
abbrev pub IsNearDelta : Option ℤ → Type 0
IsNearDelta None = Unit {0}
IsNearDelta (Some d) = (negsuc (2 ^ 33) ≤ℤ d) × (d ≤ℤ pos (2 ^ 33))

-- a run whose entries are of the family, if it has any
abbrev pub IsRun : LineFamily → Run → Type 0
IsRun family r = 0 < r.times → IsPart family r.covers r.delta

-- each run has entries that the family can write
abbrev pub AreRuns : LineFamily → List Run → Type 0
AreRuns family [] = Unit {0}
AreRuns family (r ∷ rs) = IsRun family r × AreRuns family rs

-- a length of code and a delta that a family can write
abbrev pub IsWritable : LineFamily → ℕ → Option ℤ → Type 0
IsWritable Pairs len delta = IsTrue (is_some delta)
IsWritable Ranges len delta = 0 < len
IsWritable Locations len delta = (0 < len) × (len % 2 ≡ 0)

-- the lines of ranges are i32
abbrev pub IsLine : Option ℤ → Type 0
IsLine None = Unit {0}
IsLine (Some line) = FitsSigned w32 line

-- each range's line is one that a table can tell
abbrev pub AreLines : List LineRange → Type 0
AreLines [] = Unit {0}
AreLines (r ∷ rs) = IsLine r.line × AreLines rs
