-- Programs of call frame instructions, by DWARF 5, section 6.4.3: the row at an address is a fold over the list
-- of a program's instructions.
use Rattle.std.specs.Prelude.{◌≡◌, ◌≢◌, ℕ, ◌+◌, ◌*◌, ◌≤◌, nat_lt, nat_le, List, [], ◌∷◌, ◌++◌}
use Rattle.std.specs.Prelude.{if◌then◌else◌, length, Option, Some, None, Result, Ok, Err, slice_index_or, fold}
use Rattle.frame_rows.specs.declared.number.Flaw.{Flaw}
use Rattle.frame_rows.specs.declared.number.Flaw.TheVariants.{NothingRemembered, TooManyRemembered}
use Rattle.frame_rows.specs.declared.instruction.Instruction.{Instruction}
use Rattle.frame_rows.specs.declared.instruction.Instruction.TheVariants.{Advance, Remember, Recall, Change}
use Rattle.frame_rows.specs.declared.row.Row.{Row}
use Rattle.frame_rows.specs.declared.program.Frame.{Frame}
use Rattle.frame_rows.specs.declared.program.Walk.{Walk}
use Rattle.frame_rows.specs.declared.program.Flow.{Flow}
use Rattle.frame_rows.specs.declared.program.Flow.TheVariants.{Goes, Reached}
use Rattle.frame_rows.specs.declared.program.RowError.{RowError}
use Rattle.frame_rows.specs.Instructions.{Spells, IsFault}
use Rattle.frame_rows.specs.Rows.{changed}

-- ---- what an instruction does

-- how far a program has come: the row from a location on, and the rows that are remembered, the newest first
pub record State : Type 0 where
  pub location : ℕ
  pub row : Row
  pub remembered : List Row

-- an instruction, where it begins and where it ends
pub record Placed : Type 0 where
  pub at : ℕ
  pub end : ℕ
  pub instruction : Instruction

-- how a program goes: on, to the row at the address, or not on from a place
pub data Course : Type 0 where
  Going : State → Course
  Arrived : Row → Course
  Refused : ℕ → Flaw → Course

-- the location behind an advance, where it is at most the address
abbrev pub moved : Frame → ℕ → ℕ → Option ℕ
moved frame location delta =
    if nat_le (location + delta * frame.code) frame.address then Some (location + delta * frame.code) else None

-- how a program goes behind an advance: on, or it has arrived where that passes the address
abbrev pub advanced : State → Option ℕ → Course
advanced s None = Arrived s.row
advanced s (Some location) = Going (record s { location = location })

-- how a program goes behind `DW_CFA_remember_state`: refused where no more rows can be remembered
abbrev pub remembers : ℕ → ℕ → State → Course
remembers most at s =
    if nat_lt (length s.remembered) most then Going (record s { remembered = s.row ∷ s.remembered })
    else Refused at TooManyRemembered

-- behind `DW_CFA_restore_state`: with the newest remembered row; refused where there is none
abbrev pub recalls : ℕ → State → List Row → Course
recalls at s [] = Refused at NothingRemembered
recalls at s (row ∷ others) = Going (record s { row = row; remembered = others })

-- how a program goes behind a change of its row; refused where that is flawed
abbrev pub changes : ℕ → State → Result Row Flaw → Course
changes at s (Ok row) = Going (record s { row = row })
changes at s (Err flaw) = Refused at flaw

-- how a program goes behind one more instruction, where so many rows can be remembered
abbrev pub does : Frame → ℕ → State → (at end : ℕ) → Instruction → Course
does frame most s at end (Advance delta) = advanced s (moved frame s.location delta)
does frame most s at end Remember = remembers most at s
does frame most s at end Recall = recalls at s s.remembered
does frame most s at end (Change change) = changes at s (changed frame end change s.row)

-- one that doesn't go on stays as it is
abbrev pub then_does : Frame → ℕ → Course → Placed → Course
then_does frame most (Going s) p = does frame most s p.at p.end p.instruction
then_does frame most (Arrived row) p = Arrived row
then_does frame most (Refused at flaw) p = Refused at flaw

-- ---- the list

-- how a list of instructions ends: with the bytes, or at a place where none stands, and why
pub data Ending : Type 0 where
  Whole : Ending
  Broken : ℕ → Flaw → Ending

-- no instruction begins these bytes
pub record IsBroken (bytes : List ℕ) (flaw : Flaw) : Type 0 where
  pub some : bytes ≢ []
  pub none : (text rest : List ℕ) (i : Instruction) → bytes ≡ text ++ rest → ¬ Spells text i
  pub cause : IsFault bytes flaw

-- an instruction stands first in some bytes, which begin at a place, and others behind it
pub record Stands (at : ℕ) (bytes : List ℕ) (p : Placed) (behind : List ℕ) : Type 0 where
  pub text : List ℕ
  pub spells : Spells text p.instruction
  pub parts : bytes ≡ text ++ behind
  pub begins : p.at ≡ at
  pub ends : p.end ≡ at + length text

-- some bytes, which begin at a place, are these instructions, one behind the other
abbrev pub AreInstructions : ℕ → List ℕ → List Placed → Ending → Type 0
AreInstructions at bytes [] Whole = bytes ≡ []
AreInstructions at bytes [] (Broken place flaw) = (place ≡ at) × IsBroken bytes flaw
AreInstructions at bytes (p ∷ ps) ending =
    (behind : List ℕ) × Stands at bytes p behind × AreInstructions p.end behind ps ending

-- ---- how a whole program goes

-- a program that goes on to a place where no instruction stands is refused there
abbrev pub ended : Ending → Course → Course
ended Whole course = course
ended (Broken at flaw) (Going s) = Refused at flaw
ended (Broken at flaw) (Arrived row) = Arrived row
ended (Broken at flaw) (Refused place cause) = Refused place cause

-- how a program goes by its instructions and how they end
unfoldable pub course_of : Frame → ℕ → Course → List Placed → Ending → Course
course_of frame most course list ending = ended ending (fold (then_does frame most) course list)

-- ---- what the reader's state says

-- rows are kept in a slice, the newest behind the others
abbrev pub AreKept : List Row → List Row → Type 0
AreKept kept [] = Unit {0}
AreKept kept (row ∷ others) = (slice_index_or kept (length others) row ≡ row) × AreKept kept others

-- a reader's walk is at this state, with the remembered rows in its slice
pub record Holds (kept : List Row) (walk : Walk) (s : State) : Type 0 where
  pub location : walk.location ≡ s.location
  pub row : walk.row ≡ s.row
  pub depth : walk.depth ≡ length s.remembered
  pub within : walk.depth ≤ length kept
  pub are_kept : AreKept kept s.remembered

-- a result is how a program goes
abbrev pub Follows : List Row → Result Flow RowError → Course → Type 0
Follows kept (Ok (Goes walk)) (Going s) = Holds kept walk s
Follows kept (Ok (Goes walk)) (Arrived row) = ⊥
Follows kept (Ok (Goes walk)) (Refused at flaw) = ⊥
Follows kept (Ok (Reached r)) (Going s) = ⊥
Follows kept (Ok (Reached r)) (Arrived row) = r ≡ row
Follows kept (Ok (Reached r)) (Refused at flaw) = ⊥
Follows kept (Err e) (Going s) = ⊥
Follows kept (Err e) (Arrived row) = ⊥
Follows kept (Err e) (Refused at flaw) = (e.at ≡ at) × (e.flaw ≡ flaw)

-- a program's instructions, and a result that follows them from a state
pub record Runs (frame : Frame) (old : List Row) (s : State) (base : ℕ) (program : List ℕ) (new : List Row)
    (result : Result Flow RowError) : Type 0 where
  pub list : List Placed
  pub ending : Ending
  pub are : AreInstructions base program list ending
  pub follows : Follows new result (course_of frame (length old) (Going s) list ending)

-- a walk that goes on has so many rows remembered at most
abbrev pub IsWithin : ℕ → Flow → Type 0
IsWithin most (Goes walk) = walk.depth ≤ most
IsWithin most (Reached row) = Unit {0}
