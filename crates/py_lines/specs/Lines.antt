-- What a line table says: ranges of the code, each with a line or with none, as CPython's
-- `Objects/lnotab_notes.txt` and `Objects/locations.md` have them. That sums are exact, that a line which is
-- no i32 is none, and that 0 stands for no line, are this project's rules.
use Rattle.std.specs.Prelude.{ℕ, ◌+◌, ◌^◌, ◌<◌, ◌≤◌, nat_le, nat_lt, Bool, ◌&&◌, Option, Some, None, List, [], ◌∷◌}
use Rattle.std.specs.Prelude.{◌++◌, if◌then◌else◌, ℤ, pos, negsuc, ◌+ℤ◌}
use Rattle.std.specs.Option.{is_some, unwrap_or}
use Rattle.std.specs.List.{sum_by}
use Rattle.py_lines.specs.declared.lines.LineFamily.{LineFamily}
use Rattle.py_lines.specs.declared.lines.LineFamily.TheVariants.{Pairs, Ranges, Locations}
use Rattle.py_lines.specs.declared.lines.LineRange.{LineRange}
use Rattle.py_lines.specs.declared.entry.Entry.{Entry}
use Rattle.py_lines.specs.Entries.{entries_of}

-- how many bytes of code entries cover
abbrev pub covered : List Entry → ℕ
covered es = sum_by (λ e. e.covers) es

-- a step of lines; 0 where there is none
abbrev pub delta_of : Option ℤ → ℤ
delta_of None = pos 0
delta_of (Some d) = d

-- by how much entries move the line
abbrev pub moved : List Entry → ℤ
moved [] = pos 0
moved (e ∷ es) = delta_of e.delta +ℤ moved es

-- a line that fits an i32; another is none
abbrev pub in_i32 : ℤ → Option ℤ
in_i32 (pos n) = if nat_lt n (2 ^ 31) then Some (pos n) else None
in_i32 (negsuc n) = if nat_lt n (2 ^ 31) then Some (negsuc n) else None

-- the line behind entries, from the first line on
abbrev pub line_behind : ℤ → List Entry → Option ℤ
line_behind first es = in_i32 (first +ℤ moved es)

-- the line of the code under an entry: that behind the entries before it; but in the later families the
-- entry itself moves it first, and may say that there is none
abbrev pub line_under : LineFamily → ℤ → List Entry → Entry → Option ℤ
line_under Pairs first before e = line_behind first before
line_under Ranges first before e = if is_some e.delta then line_behind first (before ++ e ∷ []) else None
line_under Locations first before e = if is_some e.delta then line_behind first (before ++ e ∷ []) else None

-- the code under an entry, which begins where the code of the entries before it ends
abbrev pub range_under : LineFamily → ℤ → List Entry → Entry → LineRange
range_under family first before e = record {
  start = covered before;
  end = covered before + e.covers;
  line = line_under family first before e;
}

-- a range that isn't empty is kept
abbrev pub kept : LineRange → List LineRange → List LineRange
kept r rs = if nat_lt r.start r.end then r ∷ rs else rs

-- behind the last pair the code goes on to 2^31
abbrev pub last_range : LineFamily → ℤ → List Entry → List LineRange
last_range Pairs first es = kept (record { start = covered es; end = 2 ^ 31; line = line_behind first es }) []
last_range Ranges first es = []
last_range Locations first es = []

-- the ranges of entries, behind those that stand before them
unfoldable pub ranges_behind : LineFamily → ℤ → List Entry → List Entry → List LineRange
ranges_behind family first before [] = last_range family first before
ranges_behind family first before (e ∷ es) =
    kept (range_under family first before e) (ranges_behind family first (before ++ e ∷ []) es)

-- the ranges of a table whose code begins with this line
unfoldable pub ranges_of : LineFamily → ℤ → List ℕ → List LineRange
ranges_of family first table = ranges_behind family first [] (entries_of family table)

-- an offset lies in a range
abbrev pub holds : ℕ → LineRange → Bool
holds offset r = nat_le r.start offset && nat_lt offset r.end

-- a line as it is shown: 0 for none
abbrev pub shown_line : Option ℤ → ℤ
shown_line line = unwrap_or line (pos 0)

-- the line at an offset: that of the range that holds it, and 0 where none does
unfoldable pub line_among : List LineRange → ℕ → ℤ
line_among [] offset = pos 0
line_among (r ∷ rs) offset = if holds offset r then shown_line r.line else line_among rs offset

-- the line of the range that holds an offset in bytes; 0 where none does
abbrev pub line_of : List LineRange → ℤ → ℤ
line_of rs (pos offset) = line_among rs offset
line_of rs (negsuc n) = pos 0

-- ranges that ascend and don't meet, from an offset on; none is empty
abbrev pub AscendFrom : ℕ → List LineRange → Type 0
AscendFrom at [] = Unit {0}
AscendFrom at (r ∷ rs) = (at ≤ r.start) × (r.start < r.end) × AscendFrom r.end rs
