-- What the threads of the interpreters that are shown wait for. A thread of Python's stands where the status record
-- that is its own says: the first one by whose ids it is.
use Rattle.std.specs.Prelude.{◌≡◌, ℕ, nat_le, ◌&&◌, Bool, List, length, position, filter_map, slice_get, codes, Vec}
use Rattle.std.specs.Prelude.{Option, Some, None, Ok, option_and_then, if◌then◌else◌}
use Rattle.std.specs.Global.{Global}
use Rattle.elf64_core.specs.Header.{machine_of}
use Rattle.elf64_core.specs.Notes.{Noted}
use Rattle.elf64_core.specs.declared.header.Machine.{Machine}
use Rattle.image_memory.specs.Notes.{AreNotesOfCore, is_of_kind, status_kind}
use Rattle.process_memory.specs.Memory.{Memory, Found}
use Rattle.py_fields.specs.declared.layout.Layout.{Layout}
use Rattle.py_process.specs.Facts.{Known, symbol_known}
use Rattle.py_records.specs.declared.records.Records.{Records}
use Rattle.py_fronts.specs.Crashes.{status_thread}
use Rattle.py_fronts.specs.declared.salvaged.SalvagedInterpreter.{SalvagedInterpreter}
use Rattle.py_fronts.specs.declared.thread_front.ThreadFront.{ThreadFront}
use Rattle.thread_registers.specs.Threads.{is_python}
use Rattle.py_waits.specs.Registers.{futex_of}
use Rattle.py_waits.specs.Types.{places_at}
use Rattle.py_waits.specs.Waits.{lock_range_at, wait_at}
use Rattle.py_waits.specs.declared.places.WaitPlaces.{WaitPlaces}
use Rattle.py_waits.specs.declared.told.InterpreterWaits.{InterpreterWaits}
use Rattle.py_waits.specs.declared.told.ThreadWait.{ThreadWait}
use Rattle.py_waits.specs.declared.wait.LockRange.{LockRange}
use Rattle.py_waits.specs.declared.wait.Wait.{Wait}
use Rattle.memory_sections.specs.Each.{EachTold, ToldIf}
use Rattle.memory_sections.specs.Pythons.{python_thread}
use Rattle.memory_sections.specs.declared.waits.Standing.{Standing}

-- ---- where threads stand

-- a native thread's id and the word that it waits at, by its status record
abbrev pub standing_in : Machine → List ℕ → Standing
standing_in machine status = record { thread = status_thread machine status; at = futex_of machine status }

-- what a note says, if it is a status record
unfoldable pub standing_noted : Machine → Noted → Option Standing
standing_noted machine note = if is_of_kind status_kind note && nat_le 112 (length note.desc)
    then Some (standing_in machine note.desc) else None

-- where the native threads stand, by the core's status records
abbrev pub standings_of : Machine → List Noted → List Standing
standings_of machine notes = filter_map (standing_noted machine) notes

-- where the threads of a core's process stand
pub record AreStandings (bytes : List ℕ) (standings : List Standing) : Type 0 where
  pub notes : List Noted
  pub noted : AreNotesOfCore bytes notes
  pub are : standings ≡ standings_of (machine_of bytes) notes

-- the word that a native thread waits at
abbrev pub word_by : Option Standing → Option ℕ
word_by None = None
word_by (Some s) = s.at

-- the word that the native thread of this number waits at
abbrev pub word_of : List Standing → ℕ → Option ℕ
word_of standings index = word_by (slice_get standings index)

-- the word at which a thread of Python's stands
abbrev pub stands_at : List Standing → ThreadFront → Option ℕ
stands_at standings t =
    option_and_then (word_of standings) (position (λ s. is_python s.thread (python_thread t)) standings)

-- ---- what they wait for

-- what a thread waits for, where it waits at a word
abbrev pub wait_by : Layout → Memory → WaitPlaces → Option LockRange → ℕ → Option ℕ → Found (Option Wait)
wait_by l m p gil thread None = Ok None
wait_by l m p gil thread (Some at) = wait_at l m p gil thread at

-- what one thread waits for
pub record IsWaitOf (standings : List Standing) (l : Layout) (m : Memory) (p : WaitPlaces) (gil : Option LockRange)
    (t : ThreadFront) (told : ThreadWait) : Type 0 where
  pub thread_is : told.thread_id ≡ t.thread_id
  pub is : wait_by l m p gil t.address (stands_at standings t) ≡ Ok told.wait

-- those of an interpreter, by its own modules' types and its own lock
pub record AreWaitsOf (k : Known) (l : Layout) (r : Records) (m : Memory) (standings : List Standing)
    (i : SalvagedInterpreter) (told : InterpreterWaits) : Type 0 where
  pub interpreter_is : told.interpreter ≡ i.front.address
  pub places : WaitPlaces
  pub found : places_at l r m i.front.address ≡ Ok places
  pub gil : Option LockRange
  pub lock : lock_range_at l m r.locks (symbol_known k (codes "_PyRuntime")) i.front.address ≡ Ok gil
  pub are : EachTold (IsWaitOf standings l m places gil) i.front.threads.threads.items told.threads.items

-- those of each interpreter, by the status records of the core
pub record AreWaits (bytes : List ℕ) (k : Known) (l : Layout) (r : Records) (m : Memory) (is : List SalvagedInterpreter)
    (told : Vec InterpreterWaits Global) : Type 0 where
  pub standings : List Standing
  pub stand : AreStandings bytes standings
  pub are : EachTold (AreWaitsOf k l r m standings) is told.items

-- what the threads of each interpreter wait for, exactly where it is asked for
abbrev pub WaitsAre : Bool → List ℕ → Known → Layout → Records → Memory → List SalvagedInterpreter
    → Option (Vec InterpreterWaits Global) → Type 0
WaitsAre asked bytes k l r m is told = ToldIf asked (AreWaits bytes k l r m is) told
