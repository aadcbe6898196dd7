-- The line at an offset into code, by the entries of its table. That sums are exact, that a line which is no i32 is
-- none, and that 0 stands for no line, are this project's rules.
use Rattle.std.specs.Prelude.{ℕ, ◌+◌, ◌*◌, ◌^◌, ◌≤◌, nat_le, nat_lt, ◌&&◌, Bool, Option, List, [], ◌∷◌, if◌then◌else◌}
use Rattle.std.specs.Prelude.{ℤ, pos, negsuc, ◌+ℤ◌, ◌-ℤ◌, ◌≤ℤ◌}
use Rattle.std.specs.Option.{option_and_then, unwrap_or}
use Rattle.py_lines.specs.Lines.{in_i32, shown_line}
use Rattle.frame_lines.specs.declared.entry.Entry.{Entry}
use Rattle.frame_lines.specs.declared.form.TableForm.{TableForm}
use Rattle.frame_lines.specs.declared.form.TableForm.TheVariants.{UnsignedPairs, Pairs, Ranges, Locations}
use Rattle.frame_lines.specs.declared.walk.Place.{Place}
use Rattle.frame_lines.specs.Entries.{entries_of}

-- an offset in bytes, with the line that is known there
abbrev pub place : (start : ℕ) (line : ℤ) → Place
place start line = record { start = start; line = line }

-- the line of the code under an entry: in pairs the step comes behind it
abbrev pub line_under : TableForm → ℤ → Option ℤ → Option ℤ
line_under UnsignedPairs line delta = in_i32 line
line_under Pairs line delta = in_i32 line
line_under Ranges line delta = option_and_then (λ d. in_i32 (line +ℤ d)) delta
line_under Locations line delta = option_and_then (λ d. in_i32 (line +ℤ d)) delta

-- the place behind an entry
abbrev pub past : Place → Entry → Place
past p e = place (p.start + e.covers) (p.line +ℤ unwrap_or e.delta (pos 0))

-- an offset lies in so many bytes of code at a place
abbrev pub lies_in : ℕ → ℕ → ℕ → Bool
lies_in offset start covers = nat_le start offset && nat_lt offset (start + covers)

-- behind the last pair the code goes on to 2^31
abbrev pub last_of_pairs : Place → ℕ → ℤ
last_of_pairs p offset = if nat_le p.start offset && nat_lt offset (2 ^ 31) then shown_line (in_i32 p.line) else pos 0

-- the line at an offset that no entry covers
abbrev pub last_line : TableForm → Place → ℕ → ℤ
last_line UnsignedPairs p offset = last_of_pairs p offset
last_line Pairs p offset = last_of_pairs p offset
last_line Ranges p offset = pos 0
last_line Locations p offset = pos 0

-- the line at an offset, by the entries from a place on: that of the one whose code holds it
unfoldable pub line_from : TableForm → Place → List Entry → ℕ → ℤ
line_from form p [] offset = last_line form p offset
line_from form p (e ∷ es) offset =
    if lies_in offset p.start e.covers
    then shown_line (line_under form p.line e.delta)
    else line_from form (past p e) es offset

-- the line at an offset into code that begins with a line, by its table
unfoldable pub line_held : TableForm → ℤ → List ℕ → ℕ → ℤ
line_held form first table offset = line_from form (place 0 first) (entries_of form table) offset

-- the line at an offset in bytes; 0 at a negative one
abbrev pub line_at : TableForm → ℤ → List ℕ → ℤ → ℤ
line_at form first table (pos offset) = line_held form first table offset
line_at form first table (negsuc n) = pos 0

-- a place in a table of fewer than 2^24 bytes, of which so many are left: an entry has a byte at least, covers at most
-- 255 bytes of code, and moves the line by at most 2^35
pub record IsNear (left : ℕ) (p : Place) : Type 0 where
  pub start : p.start + 255 * left ≤ 2 ^ 32
  pub low : negsuc (2 ^ 60) ≤ℤ (p.line -ℤ pos (2 ^ 35 * left))
  pub high : (p.line +ℤ pos (2 ^ 35 * left)) ≤ℤ pos (2 ^ 60)
