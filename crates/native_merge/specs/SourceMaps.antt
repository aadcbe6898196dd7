-- Which lines of a Cython file the lines of its C file come from.
use Rattle.std.specs.Prelude.{◌≡◌, ℕ, ◌+◌, ◌-◌, ◌^◌, ◌≤◌, ◌⊎◌, ◌==◌, nat_lt, if◌then◌else◌, List, [], ◌∷◌, ◌++◌, length}
use Rattle.std.specs.Prelude.{encode_utf8_all, Option, Some, None}
use Rattle.std.specs.Option.{option_or}
use Rattle.std.specs.Str.{chars}
use Rattle.std.specs.Str.Lines.{lines}
use Rattle.native_merge.specs.SourceLines.{Tells, TellsNone}
use Rattle.native_merge.specs.declared.source_map.SourceMark.{SourceMark}

-- marks of lines that ascend
abbrev pub MarksAscend : ℕ → List SourceMark → Type 0
MarksAscend at [] = Unit {0}
MarksAscend at (mark ∷ marks) = (at ≤ mark.line) × MarksAscend (mark.line + 1) marks

-- the last mark of a line below this one
abbrev pub last_below : ℕ → List SourceMark → Option SourceMark
last_below lineno [] = None
last_below lineno (mark ∷ marks) =
    option_or (last_below lineno marks) (if nat_lt mark.line lineno then Some mark else None)

-- the file and the line that a mark tells; line 0 is none
abbrev pub told : Option SourceMark → Option (List ℕ × ℕ)
told None = None
told (Some mark) = if mark.number == 0 then None else Some (encode_utf8_all mark.file, mark.number)

-- the file and the line that a line of the C file, counted from 1, comes from
abbrev pub looked_up : ℕ → List SourceMark → Option (List ℕ × ℕ)
looked_up lineno marks = told (last_below lineno marks)

-- the mark of a line, counted from 0, by the path of its file
abbrev pub mark_of : ℕ → List ℕ → ℕ → SourceMark
mark_of at path number = record { line = at; file = chars path; number = number }

-- the marks of the lines that tell something, in order, counted from a number on
pub data AreMarks (file_of : List ℕ → List ℕ) : ℕ → List (List ℕ) → List SourceMark → Type 0 where
  End : {at : ℕ} → AreMarks file_of at [] []
  Told : {at number : ℕ} {line name : List ℕ} {rest : List (List ℕ)} {marks : List SourceMark}
      → Tells line name number → AreMarks file_of (at + 1) rest marks
      → AreMarks file_of at (line ∷ rest) (mark_of at (file_of name) number ∷ marks)
  Untold : {at : ℕ} {line : List ℕ} {rest : List (List ℕ)} {marks : List SourceMark} → TellsNone line
      → AreMarks file_of (at + 1) rest marks → AreMarks file_of at (line ∷ rest) marks

-- a map has the marks of the contents' lines, and last one of line 0, by which what stands behind them is nowhere
pub record IsSourceMap (file_of : List ℕ → List ℕ) (contents : List ℕ) (map : List SourceMark) : Type 0 where
  pub marks : List SourceMark
  pub are : AreMarks file_of 0 (lines contents) marks
  pub all : map ≡ marks ++ (mark_of (length (lines contents) + 1) [] 0 ∷ [])

-- contents have one map
abbrev pub MapsOnce : Type 0
MapsOnce = (file_of : List ℕ → List ℕ) (contents : List ℕ) (map other : List SourceMark)
    → IsSourceMap file_of contents map → IsSourceMap file_of contents other → map ≡ other

-- contents of so many lines are too long
abbrev pub line_limit : ℕ
line_limit = 2 ^ 32 - 2

-- a line adds its mark, or nothing where it tells nothing
abbrev pub AddsMark : (List ℕ → List ℕ) → ℕ → List ℕ → List SourceMark → List SourceMark → Type 0
AddsMark file_of at line old new =
    ((name : List ℕ) × (number : ℕ) × Tells line name number × (new ≡ old ++ (mark_of at (file_of name) number ∷ [])))
    ⊎ (TellsNone line × (new ≡ old))
