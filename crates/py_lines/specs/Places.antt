-- How far a walk over a table has come, and what the entries from there on say. `Lines` says the same of the
-- entries alone.
use Rattle.std.specs.Prelude.{ℕ, ◌+◌, ◌*◌, ◌^◌, ◌≤◌, Option, Some, None, List, [], ◌∷◌, ℤ, pos, negsuc, ◌+ℤ◌, ◌-ℤ◌}
use Rattle.std.specs.Prelude.{◌≤ℤ◌}
use Rattle.std.specs.Option.{option_and_then}
use Rattle.py_lines.specs.declared.lines.LineFamily.{LineFamily}
use Rattle.py_lines.specs.declared.lines.LineFamily.TheVariants.{Pairs, Ranges, Locations}
use Rattle.py_lines.specs.declared.lines.LineRange.{LineRange}
use Rattle.py_lines.specs.declared.lines.Place.{Place}
use Rattle.py_lines.specs.declared.entry.Entry.{Entry}
use Rattle.py_lines.specs.Lines.{delta_of, in_i32, kept}

-- the line of the code under an entry, at a running line
abbrev pub line_with : LineFamily → ℤ → Option ℤ → Option ℤ
line_with Pairs line delta = in_i32 line
line_with Ranges line delta = option_and_then (λ d. in_i32 (line +ℤ d)) delta
line_with Locations line delta = option_and_then (λ d. in_i32 (line +ℤ d)) delta

-- the range of bytes that an entry covers, with its line
abbrev pub line_range_at : LineFamily → Place → Entry → LineRange
line_range_at family p e = record { start = p.start; end = p.start + e.covers; line = line_with family p.line e.delta }

-- the place behind an entry
abbrev pub past : Place → Entry → Place
past p e = record { start = p.start + e.covers; line = p.line +ℤ delta_of e.delta }

-- what is left behind the last entry
abbrev pub last_at : LineFamily → Place → Option LineRange
last_at Pairs p = Some (record { start = p.start; end = 2 ^ 31; line = in_i32 p.line })
last_at Ranges p = None
last_at Locations p = None

-- the last range, where there is one and it covers a byte
abbrev pub kept_last : Option LineRange → List LineRange
kept_last None = []
kept_last (Some r) = kept r []

-- the ranges of entries from a place on
unfoldable pub laid : LineFamily → Place → List Entry → List LineRange
laid family p [] = kept_last (last_at family p)
laid family p (e ∷ es) = kept (line_range_at family p e) (laid family (past p e) es)

-- a place in a table of fewer than 65536 bytes, of which so many are left: an entry has a byte at least,
-- covers at most 255 bytes of code, and moves the line by at most 2^35
pub record IsNear (left : ℕ) (p : Place) : Type 0 where
  pub start : p.start + 255 * left ≤ 2 ^ 24
  pub low : negsuc (2 ^ 52) ≤ℤ (p.line -ℤ pos (2 ^ 35 * left))
  pub high : (p.line +ℤ pos (2 ^ 35 * left)) ≤ℤ pos (2 ^ 52)
