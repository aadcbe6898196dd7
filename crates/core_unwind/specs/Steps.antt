-- One step: by where the address stands, the entry that covers it, and the row there.
use Rattle.std.specs.Prelude.{◌≡◌, ℕ, ◌==◌, ◌&&◌, nat_lt, List, Option, Some, None, Result, Ok, Err, if◌then◌else◌}
use Rattle.process_memory.specs.Memory.{Memory}
use Rattle.frame_rows.specs.declared.row.Row.{Row}
use Rattle.frame_rows.specs.declared.program.RowError.{RowError}
use Rattle.frame_tables.specs.declared.flaw.RecordError.{RecordError}
use Rattle.frame_tables.specs.declared.flaw.TableError.{TableError}
use Rattle.frame_tables.specs.declared.record.Entry.{Entry}
use Rattle.frame_tables.specs.Headers.{Opens}
use Rattle.frame_tables.specs.Rows.{IsEntryRow}
use Rattle.frame_tables.specs.Tables.{Finds}
use Rattle.core_unwind.specs.declared.end.End.{End}
use Rattle.core_unwind.specs.declared.end.End.TheVariants as how
use Rattle.core_unwind.specs.declared.end.Limit.{Limit}
use Rattle.core_unwind.specs.declared.end.Limit.TheVariants.{Signals, Bytes}
use Rattle.core_unwind.specs.declared.end.Refusal.TheVariants as why
use Rattle.core_unwind.specs.declared.frame.Turn.{Turn}
use Rattle.core_unwind.specs.declared.place.CodePlace.{CodePlace}
use Rattle.core_unwind.specs.declared.place.Mapping.{Mapping}
use Rattle.core_unwind.specs.declared.state.State.{State}
use Rattle.core_unwind.specs.Ends.{table_end}
use Rattle.core_unwind.specs.Places.{IsSpot, Site}
use Rattle.core_unwind.specs.States.{here}
use Rattle.core_unwind.specs.Turns.{instruction_bytes, stopped, turn_of}

-- why an entry's instructions are not read, if they aren't
abbrev pub cut_by : State → Entry → Option Limit
cut_by s entry =
    if entry.is_signal && s.signals == 0 then Some Signals
    else if nat_lt s.bytes (instruction_bytes entry) then Some Bytes
    else None

-- by the row
abbrev pub IsStepWith : (code_bits : ℕ) → Memory → State → CodePlace → List ℕ → Entry → Result Row RowError → Turn
    → Type 0
IsStepWith code_bits m s place file entry (Err error) turn = turn ≡ stopped s (Some place) (how.Refused (why.Row error))
IsStepWith code_bits m s place file entry (Ok row) turn =
    turn ≡ turn_of code_bits s place (record { table = file; entry = entry; row = row }) m

-- by an entry, whose instructions are read
pub record IsStepTo (code_bits : ℕ) (m : Memory) (s : State) (place : CodePlace) (file : List ℕ) (entry : Entry)
    (turn : Turn) : Type 0 where
  pub row : Result Row RowError
  pub is_row : IsEntryRow file entry place.address row
  pub is : IsStepWith code_bits m s place file entry row turn

-- by an entry, unless a limit keeps its instructions from being read: then the stack is cut
abbrev pub IsStepUnless : (code_bits : ℕ) → Memory → State → CodePlace → List ℕ → Entry → Option Limit → Turn → Type 0
IsStepUnless code_bits m s place file entry (Some limit) turn = turn ≡ stopped s (Some place) (how.Cut limit)
IsStepUnless code_bits m s place file entry None turn = IsStepTo code_bits m s place file entry turn

-- by an entry that covers the address
abbrev pub IsStepFrom : (code_bits : ℕ) → Memory → State → CodePlace → List ℕ → Entry → Turn → Type 0
IsStepFrom code_bits m s place file entry turn = IsStepUnless code_bits m s place file entry (cut_by s entry) turn

-- by what was found in a table: a flawed record and a missing entry end the stack
abbrev pub IsStepOf : (code_bits : ℕ) → Memory → State → CodePlace → List ℕ → Result (Option Entry) RecordError → Turn
    → Type 0
IsStepOf code_bits m s place file (Err error) turn = turn ≡ stopped s (Some place) (how.Refused (why.Record error))
IsStepOf code_bits m s place file (Ok None) turn = turn ≡ stopped s (Some place) (how.NoTable (here s))
IsStepOf code_bits m s place file (Ok (Some entry)) turn = IsStepFrom code_bits m s place file entry turn

-- by a file's table
pub record IsStepBy (code_bits : ℕ) (m : Memory) (s : State) (place : CodePlace) (file : List ℕ) (turn : Turn)
    : Type 0 where
  pub found : Result (Option Entry) RecordError
  pub finds : Finds file place.address found
  pub is : IsStepOf code_bits m s place file found turn

-- by the table of a file, where it can be opened
abbrev pub IsStepIf : (code_bits : ℕ) → Memory → State → CodePlace → Result (List ℕ) TableError → Turn → Type 0
IsStepIf code_bits m s place (Err error) turn = turn ≡ stopped s (Some place) (table_end error (here s))
IsStepIf code_bits m s place (Ok file) turn = IsStepBy code_bits m s place file turn

-- in a file
pub record IsStepIn (code_bits : ℕ) (m : Memory) (s : State) (site : Site) (turn : Turn) : Type 0 where
  pub table : Result (List ℕ) TableError
  pub opens : Opens site.bytes table
  pub is : IsStepIf code_bits m s site.place table turn

-- by where the address stands; where it stands in no code of a file, the stack ends
abbrev pub IsStepAt : (code_bits : ℕ) → Memory → State → Result Site End → Turn → Type 0
IsStepAt code_bits m s (Err end) turn = turn ≡ stopped s None end
IsStepAt code_bits m s (Ok site) turn = IsStepIn code_bits m s site turn

-- one step from a state, by tables alone
pub record IsTableStep (mappings : List Mapping) (code_bits : ℕ) (m : Memory) (s : State) (turn : Turn) : Type 0 where
  pub answer : Result Site End
  pub spot : IsSpot mappings (here s) answer
  pub is : IsStepAt code_bits m s answer turn
