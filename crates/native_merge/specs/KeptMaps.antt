-- Maps of C files that are kept by the files' names, and what a frame in a C file becomes by them. Which frames are
-- looked up is py-spy's rule, for frames of a line above 0; that a file that could not be read isn't kept, and that a
-- line past an i32 becomes 0, is this project's own.
use Rattle.std.specs.Prelude.{◌≡◌, ℕ, ◌^◌, nat_eq, nat_lt, Bool, ◌&&◌, ◌||◌, not, if◌then◌else◌, List, encode_utf8_all}
use Rattle.std.specs.Prelude.{codes, Option, Some, None, is_some, option_map, ℤ, pos, negsuc, ◌⊎◌, IfSome, true, false}
use Rattle.std.specs.FinMap as map
use Rattle.std.specs.List.{ends_with}
use Rattle.std.specs.Ordering.{nat_cmp, on}
use Rattle.std.specs.declared.cmp.Ordering.{Ordering}
use Rattle.std.specs.Cmp.Lexicographic.{slice_cmp}
use Rattle.std.specs.Str.{chars}
use Rattle.native_merge.specs.MapsOfFiles.{FailsToRead, IsMapOfFile, MapOrNone}
use Rattle.native_merge.specs.SourceMaps.{looked_up}
use Rattle.native_merge.specs.Sources.{SourcesSeen}
use Rattle.py_stacks.specs.declared.trace.Frame.{Frame}

-- names of files are compared by their bytes in UTF-8
abbrev pub file_order : List ℕ → List ℕ → Ordering
file_order = on encode_utf8_all (slice_cmp nat_cmp)

-- names of C files, each with its map or none
abbrev pub Kept : Type 0
Kept = map.FinMap file_order MapOrNone

-- ---- which frames are looked up

-- whether a file's name ends with `.c` or `.cpp`
abbrev pub is_c_file : List ℕ → Bool
is_c_file name = ends_with nat_eq name (codes ".c") || ends_with nat_eq name (codes ".cpp")

-- a line above 0; none where it isn't
abbrev pub above_zero : ℤ → Option ℕ
above_zero (pos n) = if nat_lt 0 n then Some n else None
above_zero (negsuc n) = None

-- the line at which a frame is looked up: one above 0, where its file is one of C
abbrev pub asked_line : Frame → Option ℕ
asked_line frame = if is_c_file (encode_utf8_all frame.filename) then above_zero frame.line else None

-- a frame that is looked up, and whose file isn't kept
abbrev pub wants_map : Kept → Frame → Bool
wants_map kept frame = is_some (asked_line frame) && not (map.contains_key kept frame.filename)

-- ---- what it becomes

-- a number as a frame's line: 0 past an i32
abbrev pub line_or_zero : ℕ → ℤ
line_or_zero number = if nat_lt number (2 ^ 31) then pos number else pos 0

-- a frame at a file and a line, where there are any
abbrev pub placed : Frame → Option (List ℕ × ℕ) → Frame
placed frame None = frame
placed frame (Some place) = record frame { filename = chars place.0; line = line_or_zero place.1 }

-- what is kept for a file tells of a line
abbrev pub told_of : Option MapOrNone → ℕ → Option (List ℕ × ℕ)
told_of None lineno = None
told_of (Some None) lineno = None
told_of (Some (Some marks)) lineno = looked_up lineno marks

-- the frame where the map of its file tells of this line; else as it is
abbrev pub translated_at : Kept → Frame → Option ℕ → Frame
translated_at kept frame None = frame
translated_at kept frame (Some lineno) = placed frame (told_of (map.get kept frame.filename) lineno)

-- the frame where the map of its file tells of its line; else as it is
abbrev pub translated : Kept → Frame → Frame
translated kept frame = translated_at kept frame (asked_line frame)

-- ---- what is kept

-- the name of a frame's module in UTF-8
abbrev pub module_of : Frame → Option (List ℕ)
module_of frame = option_map encode_utf8_all frame.«module»

-- the map of a frame's file is kept, none included
pub record KeepsMap (seen : SourcesSeen) (frame : Frame) (old new : Kept) : Type 0 where
  pub answer : MapOrNone
  pub right : IsMapOfFile seen (encode_utf8_all frame.filename) (module_of frame) answer
  pub kept : new ≡ map.insert old frame.filename answer

-- so it is, or the file could not be read and nothing is kept for it
abbrev pub AddsMap : SourcesSeen → SourcesSeen → Frame → Kept → Kept → Type 0
AddsMap before now frame old new =
    KeepsMap before frame old new ⊎ (FailsToRead before now (encode_utf8_all frame.filename) × (new ≡ old))

-- what is kept for a file stays; what is new under a file's name is the map of that file, or that it has none
pub record MapsStay (seen : SourcesSeen) (old new : Kept) : Type 0 where
  pub stay : (name : List ℕ) → map.contains_key old name ≡ true → map.get new name ≡ map.get old name
  pub right : (name : List ℕ) → map.contains_key old name ≡ false → IfSome (map.get new name)
      (λ answer. (module_name : Option (List ℕ)) × IsMapOfFile seen (encode_utf8_all name) module_name answer)
