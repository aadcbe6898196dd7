-- The row at an address, by DWARF 5, section 6.4.3: a fold over the initial instructions, and from there on over
-- the entry's own.
use Rattle.std.specs.Prelude.{◌≡◌, ℕ, List, [], length, Result, Ok, Err}
use Rattle.std.specs.Int.{w64, cast_unsigned}
use Rattle.frame_rows.specs.declared.row.Row.{Row}
use Rattle.frame_rows.specs.declared.program.Frame.{Frame}
use Rattle.frame_rows.specs.declared.program.Flow.{Flow}
use Rattle.frame_rows.specs.declared.program.RowError.{RowError}
use Rattle.frame_rows.specs.declared.answer.Convention.{Convention}
use Rattle.frame_rows.specs.Rows.{empty_row}
use Rattle.frame_rows.specs.Programs.{State, Placed, Course, Going, Arrived, Refused, Ending, AreInstructions}
use Rattle.frame_rows.specs.Programs.{course_of, Follows}

-- the state before the first instruction
abbrev pub start : ℕ → State
start begin = record { location = begin; row = empty_row; remembered = [] }

-- what a program is run with
abbrev pub frame_of : Convention → ℕ → Row → Frame
frame_of a address first = record {
  machine = a.machine;
  code = a.code;
  scale = cast_unsigned w64 a.factor;
  address = address;
  first = first;
}

-- the entry's own instructions, behind the initial ones; their row is the one that `restore` goes back to
abbrev pub goes_on : Convention → (address most : ℕ) → List Placed → Ending → Course → Course
goes_on a address most own ending (Going s) = course_of (frame_of a address s.row) most (Going s) own ending
goes_on a address most own ending (Arrived row) = Arrived row
goes_on a address most own ending (Refused at flaw) = Refused at flaw

-- both
abbrev pub whole_course : Convention → (begin address most : ℕ)
    → (initial : List Placed) → Ending → (own : List Placed) → Ending → Course
whole_course a begin address most initial ended own ending =
    goes_on a address most own ending
    (course_of (frame_of a address empty_row) most (Going (start begin)) initial ended)

-- the row that comes of it, or why there is none
abbrev pub row_of : Course → Result Row RowError
row_of (Going s) = Ok s.row
row_of (Arrived row) = Ok row
row_of (Refused at flaw) = Err (record { at = at; flaw = flaw })

-- the instructions that two programs are, one behind the other
pub record AreBoth (initial own : List ℕ) : Type 0 where
  pub firsts : List Placed
  pub ended : Ending
  pub are_firsts : AreInstructions 0 initial firsts ended
  pub owns : List Placed
  pub ending : Ending
  pub are_owns : AreInstructions (length initial) own owns ending

-- this is the row at an address, or why there is none, where so many rows can be remembered
pub record IsRow (a : Convention) (initial own : List ℕ) (begin address most : ℕ) (answer : Result Row RowError)
    : Type 0 where
  pub both : AreBoth initial own
  pub is : answer ≡ row_of (whole_course a begin address most both.firsts both.ended both.owns both.ending)

-- the reader's result follows both
pub record FollowsBoth (a : Convention) (initial own : List ℕ) (begin address most : ℕ) (kept : List Row)
    (result : Result Flow RowError) : Type 0 where
  pub both : AreBoth initial own
  pub follows : Follows kept result (whole_course a begin address most both.firsts both.ended both.owns both.ending)
