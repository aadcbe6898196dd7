-- What a thread waits for that stands at a word in the system. That it waits for the interpreter's lock where the word
-- lies in its record is CPython's (`struct _gil_runtime_state`, Include/internal/pycore_gil.h), whose condition is in
-- it.
use Rattle.std.specs.Prelude.{◌≡◌, ◌≢◌, ℕ, zero, suc, ◌+◌, ◌-◌, ◌≤◌, ◌<◌, ◌^◌, nat_le, nat_lt, ◌&&◌, Bool, true, false}
use Rattle.std.specs.Prelude.{◌⊎◌, Option, Some, None, Ok, if◌then◌else◌, IsTrue}
use Rattle.std.specs.Option.{option_or}
use Rattle.process_memory.specs.Memory.{Memory, Found, ◌>>=◌, word_at}
use Rattle.py_fields.specs.declared.layout.Layout.{Layout}
use Rattle.py_records.specs.declared.locks.InterpreterLockRecord.{InterpreterLockRecord}
use Rattle.py_records.specs.declared.locks.LockRecords.{LockRecords}
use Rattle.py_records.specs.declared.locks.RuntimeLockRecord.{RuntimeLockRecord}
use Rattle.py_waits.specs.declared.objects.Waited.{Waited}
use Rattle.py_waits.specs.declared.places.Kind.{Kind}
use Rattle.py_waits.specs.declared.places.Kind.TheVariants as kind
use Rattle.py_waits.specs.declared.places.OwnerAt.{OwnerAt}
use Rattle.py_waits.specs.declared.places.WaitPlaces.{WaitPlaces}
use Rattle.py_waits.specs.declared.places.Waitable.{Waitable}
use Rattle.py_waits.specs.declared.wait.LockRange.{LockRange}
use Rattle.py_waits.specs.declared.wait.Wait.{Wait}
use Rattle.py_waits.specs.declared.wait.Wait.TheVariants.{Interpreter, Lock, Rlock, Queue}
use Rattle.py_waits.specs.Frames.{searched_at}
use Rattle.py_waits.specs.Objects.{parked_at}
use Rattle.py_waits.specs.Words.{word_in}

-- ---- who holds a reentrant lock

-- the owner of a reentrant lock: none holds one whose count is 0
abbrev pub owner_if : Option ℕ → Option ℕ → Option ℕ
owner_if None owner = None
owner_if (Some zero) owner = None
owner_if (Some (suc n)) owner = owner

-- the owner of the reentrant lock at an address, where its place is described and some thread holds it
abbrev pub owner_at : Memory → Option OwnerAt → ℕ → Found (Option ℕ)
owner_at m None a = Ok None
owner_at m (Some place) a = do
  count ← word_in m (Some a) place.count
  owner ← word_in m (Some a) place.owner
  Ok (owner_if count owner)

-- ---- what holds of what is told

-- an address lies in the record of a lock
abbrev pub is_within : Option LockRange → ℕ → Bool
is_within None at = false
is_within (Some r) at = nat_le r.address at && nat_lt (at - r.address) r.size

-- a thread that stands at a word waits for an object of a type, whose address isn't 0: its semaphore is that word
pub record IsHeld (m : Memory) (klass at address : ℕ) (w : Waitable) : Type 0 where
  pub typed : w.class ≢ 0
  pub class : word_at m (address + klass) ≡ Ok w.class
  pub semaphore : word_at m (address + w.place) ≡ Ok at

-- or the word before that one is the address of the object's own byte
pub record IsParked (m : Memory) (klass at address : ℕ) (w : Waitable) : Type 0 where
  pub typed : w.class ≢ 0
  pub class : word_at m (address + klass) ≡ Ok w.class
  pub high : 8 ≤ at
  pub byte : word_at m (at - 8) ≡ Ok (address + w.place)

-- something holds of what is there; never where nothing is
abbrev pub OfSome : Option Waitable → (Waitable → Type 0) → Type 0
OfSome None P = ⊥
OfSome (Some w) P = P w

-- the thread waits for what is told
abbrev pub IsWaiting : Memory → WaitPlaces → Option LockRange → ℕ → Wait → Type 0
IsWaiting m p gil at Interpreter = is_within gil at ≡ true
IsWaiting m p gil at (Lock a) = OfSome p.lock (IsHeld m p.klass at a) ⊎ OfSome p.parked_lock (IsParked m p.klass at a)
IsWaiting m p gil at (Rlock a owner) = OfSome p.rlock (IsHeld m p.klass at a) × (owner_at m p.owner a ≡ Ok owner)
IsWaiting m p gil at (Queue a) =
    OfSome p.queue (IsHeld m p.klass at a) ⊎ OfSome p.parked_queue (IsParked m p.klass at a)

-- ---- what is told

-- what a thread waits for, by an object of this kind at an address; with the owner of a reentrant lock
abbrev pub held_by : Memory → Option OwnerAt → Kind → ℕ → Found (Option Wait)
held_by m owner kind.Lock a = Ok (Some (Lock a))
held_by m owner kind.Queue a = Ok (Some (Queue a))
held_by m owner kind.Rlock a = do
  holder ← owner_at m owner a
  Ok (Some (Rlock a holder))

-- the same, where an object was found
abbrev pub told_at : Memory → Option OwnerAt → Option Waited → Found (Option Wait)
told_at m owner None = Ok None
told_at m owner (Some w) = held_by m owner w.kind w.address

-- the object for which a thread that stands at a word waits, parked there or among what its newest frames hold
unfoldable pub looked_at : Layout → Memory → WaitPlaces → (thread at : ℕ) → Found (Option Wait)
looked_at l m p thread at = do
  parked ← parked_at m p at
  found ← searched_at l m p thread at parked
  told_at m p.owner found

-- the interpreter's lock, if the word lies in its record; else the object that is found
abbrev pub wait_if : (is_within : Bool) → Layout → Memory → WaitPlaces → (thread at : ℕ) → Found (Option Wait)
wait_if true l m p thread at = Ok (Some Interpreter)
wait_if false l m p thread at = looked_at l m p thread at

-- what a thread that stands at a word waits for; none where nothing is found
unfoldable pub wait_at : Layout → Memory → WaitPlaces → Option LockRange → (thread at : ℕ) → Found (Option Wait)
wait_at l m p gil thread at = wait_if (is_within gil at) l m p thread at

-- ---- where the record of the interpreter's lock stands

-- the record of a lock at an address, with so many bytes; none without an address
abbrev pub range_from : Option ℕ → ℕ → Option LockRange
range_from None size = None
range_from (Some a) size = Some (record { address = a; size = size })

-- the address so many bytes behind another one, where it fits in 64 bits
abbrev pub past : ℕ → ℕ → Option ℕ
past a by = if nat_lt (a + by) (2 ^ 64) then Some (a + by) else None

-- the record of the lock that all interpreters share, inside the runtime's record (`_PyRuntimeState`)
abbrev pub runtime_range : Option RuntimeLockRecord → Option ℕ → Option LockRange
runtime_range None runtime = None
runtime_range (Some r) None = None
runtime_range (Some r) (Some runtime) = range_from (past runtime r.place) r.size

-- the record of so many bytes that an interpreter names as its lock (`ceval.gil`), where its place is known
abbrev pub range_at : Memory → (size : ℕ) → (place : Option ℕ) → (interpreter : ℕ) → Found (Option LockRange)
range_at m size None interpreter = Ok None
range_at m size (Some place) interpreter = do
  a ← word_in m (Some interpreter) place
  Ok (range_from a size)

-- the record of an interpreter's own lock, where the version has such
abbrev pub own_range : Memory → Option InterpreterLockRecord → Option ℕ → ℕ → Found (Option LockRange)
own_range m None place interpreter = Ok None
own_range m (Some r) place interpreter = range_at m r.size place interpreter

-- the record of the lock of an interpreter: its own, else the runtime's
unfoldable pub lock_range_at : Layout → Memory → LockRecords → (runtime : Option ℕ) → (interpreter : ℕ)
    → Found (Option LockRange)
lock_range_at l m r runtime interpreter = do
  own ← own_range m r.interpreter_lock l.interpreter.gil interpreter
  Ok (option_or own (runtime_range r.runtime_lock runtime))
