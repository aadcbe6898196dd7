-- What is left of a process's stacks, with its marks.
use Rattle.std.specs.Prelude.{◌≡◌, ℕ, ◌+◌, ◌*◌, Bool, is_some, List, ◌++◌, length, map, position, Option, Result}
use Rattle.std.specs.Prelude.{Ok, Err, Vec}
use Rattle.std.specs.Global.{Global}
use Rattle.elf64_core.specs.declared.header.Machine.{Machine}
use Rattle.process_memory.specs.Memory.{Memory, byte_at}
use Rattle.process_memory.specs.Seen.{Reading, ReadingOf, Seen}
use Rattle.py_fields.specs.declared.version.Version.{Version}
use Rattle.py_fields.specs.declared.layout.Layout.{Layout}
use Rattle.py_stacks.specs.declared.asked.Asked.{Asked}
use Rattle.py_process.specs.Facts.{Known}
use Rattle.py_process.specs.Sections.{IsSearched}
use Rattle.py_fronts.specs.declared.fronts.InterpreterFront.{InterpreterFront}
use Rattle.py_fronts.specs.Fronts.{InterpreterShown, all_most, fronts_at, fronts_reads, interpreter_of_front}
use Rattle.py_fronts.specs.Interpreters.{interpreters_at, interpreters_reads}
use Rattle.py_fronts.specs.declared.crash.Crash.{Crash}
use Rattle.py_fronts.specs.declared.lock.LockState.{LockState}
use Rattle.py_fronts.specs.declared.search.Looked.{Looked}
use Rattle.py_fronts.specs.declared.salvaged.Salvaged.{Salvaged}
use Rattle.py_fronts.specs.declared.salvaged.SalvagedInterpreter.{SalvagedInterpreter}
use Rattle.py_fronts.specs.Crashes.{is_crashed}
use Rattle.py_fronts.specs.Locks.{lock_told}

-- whether a thread of an interpreter got the signal
abbrev pub has_crashed : Option Crash → SalvagedInterpreter → Bool
has_crashed crash i = is_some (position (λ thread. is_crashed crash thread) i.front.threads.threads.items)

-- the first interpreter of which one did
abbrev pub first_crashed : Option Crash → List SalvagedInterpreter → Option ℕ
first_crashed crash is = position (λ i. has_crashed crash i) is

-- an interpreter with its lock
pub record LockedInterpreter : Type 0 where
  pub interpreter : InterpreterShown
  pub lock : LockState

-- an interpreter with the state of its own lock
abbrev pub with_lock : Machine → Known → Version → Layout → Memory → InterpreterShown → LockedInterpreter
with_lock machine k v l m i = record { interpreter = i; lock = lock_told machine k v l m i.address }

-- the interpreters with their locks, whether there are more, what was looked at, and which thread got the signal
pub record SalvagedShown : Type 0 where
  pub interpreters : List LockedInterpreter
  pub more : Bool
  pub looked : Looked
  pub crash : Option Crash

-- the fronts of a process, each interpreter with its own lock
unfoldable pub salvaged_at : (ℕ → Bool) → Machine → Known → Version → Layout → Memory → Asked → ℕ → Option Crash
    → SalvagedShown
salvaged_at contains machine k v l m q limit crash = record {
  interpreters = map (with_lock machine k v l m) (fronts_at contains k v l m q limit).interpreters;
  more = (fronts_at contains k v l m q limit).more;
  looked = (fronts_at contains k v l m q limit).looked;
  crash = crash;
}

-- ---- as they are read

-- an interpreter with its lock that the code has, as it is shown
abbrev pub locked : SalvagedInterpreter → LockedInterpreter
locked i = record { interpreter = interpreter_of_front i.front; lock = i.lock }

-- a reader's result with the interpreters, each with its lock
abbrev pub locked_result : {E : Type 0} → Result (Vec SalvagedInterpreter Global) E → Result (List LockedInterpreter) E
locked_result (Ok is) = Ok (map locked is.items)
locked_result (Err e) = Err e

-- what some fronts show, each interpreter with its lock
abbrev pub with_locks : Machine → Known → Version → Layout → Memory → List InterpreterFront → List LockedInterpreter
with_locks machine k v l m fronts = map (with_lock machine k v l m) (map interpreter_of_front fronts)

-- a reader's result with what is left of the stacks, as it is shown
abbrev pub salvaged_result : {E : Type 0} → Result Salvaged E → Result SalvagedShown E
salvaged_result (Ok s) = Ok (record {
  interpreters = map locked s.interpreters.items;
  more = s.more;
  looked = s.looked;
  crash = s.crash;
})
salvaged_result (Err e) = Err e

-- the reads of all: those of the search and of the fronts, and three for each lock
abbrev pub salvage_reads : (ℕ → Bool) → Known → Version → Layout → Memory → Asked → ℕ → ℕ
salvage_reads contains k v l m q limit = interpreters_reads contains k v l m
    + fronts_reads q (fronts_at contains k v l m q limit).interpreters
    + 3 * length (fronts_at contains k v l m q limit).interpreters

-- how many these are at most, whatever the memory holds: beside the search 84,344,896 without locals, for 16
-- interpreters at the limits 100 and 4096
abbrev pub salvage_most : (ℕ → Bool) → Known → Version → Layout → Memory → Asked → ℕ → ℕ
salvage_most contains k v l m q limit =
    all_most contains k v l m q limit + 3 * length (interpreters_at contains k v l m).found

-- what the reader of all owes
abbrev pub Salvaging : (ℕ → Bool) → Known → Version → Layout → Asked → ℕ → Seen → Seen → (Memory → Type 0) → Type 0
Salvaging contains k v l q limit old new Q =
    ReadingOf (IsSearched k) (salvage_reads contains k v l (byte_at old.pieces) q limit) old new Q

-- the interpreters whose locks were read so far, and those that are left
pub record Locking (machine : Machine) (k : Known) (v : Version) (l : Layout) (old new : Seen)
    (all rest : List InterpreterFront) (shown : List SalvagedInterpreter) : Type 0 where
  pub done : List InterpreterFront
  pub parts : all ≡ done ++ rest
  pub reading : Reading (3 * length done) old new (λ m. map locked shown ≡ with_locks machine k v l m done)
