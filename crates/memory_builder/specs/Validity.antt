-- Which programs can be written. That names are short, files are named and lines are positive is so that what is
-- written can be read back; the counts and the size of numbers are this project's own bounds.
use Rattle.std.specs.Prelude.{◌≡◌, ◌≢◌, ℕ, ◌-◌, ◌%◌, ◌^◌, ◌<◌, ◌≤◌, ◌⊎◌, ℤ, pos, ◌≤ℤ◌, unsigned_abs, Option, Some, None}
use Rattle.std.specs.Prelude.{IfSome, IsTrue, List, [], length, take, slice_get, codes}
use Rattle.std.specs.List.{AllByRecursion, list_any}
use Rattle.py_lines.specs.declared.lines.LineFamily.{LineFamily}
use Rattle.py_lines.specs.declared.lines.LineRange.{LineRange}
use Rattle.py_lines.specs.Lines.{holds}
use Rattle.py_lines.specs.Coding.{coded, first_unordered}
use Rattle.memory_builder.specs.declared.validity.FramePlace.{FramePlace}
pub use Rattle.object_builder.specs.Texts.{IsBriefText}
use Rattle.memory_builder.specs.Program.{Item, Held, Local, Frame, Thread, Program}
use Rattle.memory_builder.specs.Program.Item.{Number, Words}
use Rattle.memory_builder.specs.Program.Held.{Single, Items}

-- ---- parts of a frame

-- numbers have two digits of 30 bits
abbrev pub IsValidItem : Item → Type 0
IsValidItem (Number n) = unsigned_abs n < 2 ^ 60
IsValidItem (Words text) = IsBriefText text

-- a value that can be written: a list has fewer than 65536 items
abbrev pub IsValidHeld : Held → Type 0
IsValidHeld (Single item) = IsValidItem item
IsValidHeld (Items items) = (length items < 65536) × AllByRecursion IsValidItem items

-- a local that can be written: its name is short, and so is its value
pub record IsValidLocal (v : Local) : Type 0 where
  pub name : IsBriefText v.name
  pub value : IsValidHeld v.value

-- a line that an i32 can hold
pub record IsPositiveLine (line : ℤ) : Type 0 where
  pub positive : pos 1 ≤ℤ line
  pub fits : line ≤ℤ pos (2 ^ 31 - 1)

-- a line is there and is positive
abbrev pub HasPositiveLine : Option ℤ → Type 0
HasPositiveLine None = ⊥
HasPositiveLine (Some line) = IsPositiveLine line

-- code of an even length, with a line
pub record IsValidRange (r : LineRange) : Type 0 where
  pub even : (r.end - r.start) % 2 ≡ 0
  pub line : HasPositiveLine r.line

-- `encode` takes the ranges
pub record IsCodable (family : LineFamily) (first : ℤ) (ranges : List LineRange) : Type 0 where
  pub ordered : first_unordered family 0 ranges ≡ None
  pub short : length (coded family first ranges) < 65536

-- ---- frames

-- a frame without a file, or of a shim, isn't shown
pub record IsShownFile (filename : List ℕ) : Type 0 where
  pub some : filename ≢ []
  pub no_shim : filename ≢ codes "<shim>"

-- the names of a frame are short, and its file is one that is shown
pub record IsValidlyNamed (f : Frame) : Type 0 where
  pub name : IsBriefText f.name
  pub filename : IsBriefText f.filename
  pub shown : IsShownFile f.filename

-- where the frame stands in its code
pub record IsValidlyPlaced (f : Frame) : Type 0 where
  pub first : IsPositiveLine f.first
  pub ranges : AllByRecursion IsValidRange f.ranges
  pub even : f.offset % 2 ≡ 0
  pub inside : IsTrue (list_any (holds f.offset) f.ranges)

-- at most 65535 locals, each of them valid, and no more arguments than locals
pub record HasValidLocals (f : Frame) : Type 0 where
  pub args : f.args ≤ length f.locals
  pub few : length f.locals ≤ 65535
  pub each : AllByRecursion IsValidLocal f.locals

-- a frame can be written, with a line table of a family
pub record IsValidFrame (family : LineFamily) (f : Frame) : Type 0 where
  pub named : IsValidlyNamed f
  pub placed : IsValidlyPlaced f
  pub locals : HasValidLocals f
  pub codable : IsCodable family f.first f.ranges

-- ---- threads

-- a thread by itself, behind others: its id is positive and none of theirs, and it has at most 4096 frames
pub record IsValidThread (earlier : List Thread) (t : Thread) : Type 0 where
  pub positive : 0 < t.id
  pub fits : t.id < 2 ^ 64
  pub new : AllByRecursion (λ (other : Thread). other.id ≢ t.id) earlier
  pub few : length t.frames ≤ 4096

-- the frame of an index is valid, if there is one
abbrev pub IsValidCall : LineFamily → List Frame → ℕ → Type 0
IsValidCall family frames k = IfSome (slice_get frames k) (IsValidFrame family)

-- at a frame of a thread: the frame is valid, and at the first one, or where it would be, the thread by itself
pub record IsValidIn (family : LineFamily) (earlier : List Thread) (t : Thread) (frame : ℕ) : Type 0 where
  pub thread : frame ≡ 0 → IsValidThread earlier t
  pub call : IsValidCall family t.frames frame

-- ---- programs

-- what a program is to be as a whole: it has threads, and an owner is one of them
pub record IsValidWhole (p : Program) : Type 0 where
  pub some : 0 < length p.threads
  pub owner : IfSome p.owner (λ k. k < length p.threads)

-- a program is valid at a thread and one of its frames, both counted from 0. The whole program is looked at at the
-- first place of all, and that there are at most 4096 threads where the next one would be
pub record IsValidAt (family : LineFamily) (p : Program) (thread frame : ℕ) : Type 0 where
  pub whole : thread ≡ 0 → frame ≡ 0 → IsValidWhole p
  pub few : thread ≡ 4096 → frame ≡ 0 → length p.threads ≤ 4096
  pub within : IfSome (slice_get p.threads thread) (λ t. IsValidIn family (take thread p.threads) t frame)

-- a program can be written, with line tables of a family
abbrev pub IsValidProgram : LineFamily → Program → Type 0
IsValidProgram family p = (thread frame : ℕ) → IsValidAt family p thread frame

-- the first number of which something doesn't hold
pub record IsFirstFailing (P : ℕ → Type 0) (k : ℕ) : Type 0 where
  pub fails : ¬ P k
  pub before : (j : ℕ) → j < k → P j

-- places are ordered by their threads, and those of a thread by their frames
abbrev pub StandsBefore : (thread frame : ℕ) → FramePlace → Type 0
StandsBefore thread frame place = (thread < place.thread) ⊎ ((thread ≡ place.thread) × (frame < place.frame))

-- the first place at which a program isn't valid
pub record IsFirstInvalid (family : LineFamily) (p : Program) (place : FramePlace) : Type 0 where
  pub fails : ¬ IsValidAt family p place.thread place.frame
  pub before : (thread frame : ℕ) → StandsBefore thread frame place → IsValidAt family p thread frame
