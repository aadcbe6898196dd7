-- Objects that may be the one that a thread waits for. That a lock and a reentrant lock have the address of what they
-- are waited at is CPython's (Modules/_threadmodule.c; Modules/_queuemodule.c), as that a parked thread's entry has the
-- address of the byte right before its semaphore (Python/parking_lot.c). That a found object is told only where its
-- word is the one at which the thread stands is this project's own rule.
use Rattle.std.specs.Prelude.{ℕ, zero, suc, ◌+◌, ◌-◌, ◌^◌, ◌%◌, ◌==◌, ◌&&◌, nat_le, nat_lt, Bool, false}
use Rattle.std.specs.Prelude.{Option, Some, None, Ok, if◌then◌else◌, option_map}
use Rattle.process_memory.specs.Memory.{Memory, Found, ◌>>=◌}
use Rattle.py_waits.specs.declared.objects.Waited.{Waited}
use Rattle.py_waits.specs.declared.places.Held.{Held}
use Rattle.py_waits.specs.declared.places.Kind.{Kind}
use Rattle.py_waits.specs.declared.places.Kind.TheVariants as kind
use Rattle.py_waits.specs.declared.places.WaitPlaces.{WaitPlaces}
use Rattle.py_waits.specs.declared.places.Waitable.{Waitable}
use Rattle.py_waits.specs.Places.{held_kind, is_of}
use Rattle.py_waits.specs.Words.{word_in}

-- an object of this kind, where there is an address
abbrev pub as_waited : Kind → Option ℕ → Option Waited
as_waited k None = None
as_waited k (Some a) = Some (record { kind = k; address = a })

-- whether a word is there and is this one
abbrev pub is_word : Option ℕ → ℕ → Bool
is_word None at = false
is_word (Some word) at = word == at

-- an object of this kind, if its semaphore is the word at which the thread stands
unfoldable pub waited_if : Kind → Option ℕ → Option ℕ → ℕ → Option Waited
waited_if k object semaphore at = if is_word semaphore at then as_waited k object else None

-- an object of a kind with a semaphore, if that is the word
abbrev pub held_at : Memory → Option Held → Option ℕ → ℕ → Found (Option Waited)
held_at m None object at = Ok None
held_at m (Some held) object at = do
  semaphore ← word_in m object held.place
  Ok (waited_if held.kind object semaphore at)

-- an object, if a thread that stands at a word waits for it
unfoldable pub object_at : Memory → WaitPlaces → Option ℕ → ℕ → Found (Option Waited)
object_at m p object at = do
  class ← word_in m object p.klass
  held_at m (held_kind p class) object at

-- a word, if an object may stand there: what is no multiple of 8, or 2^56 and above, is no object's address
unfoldable pub address_if : ℕ → Option ℕ
address_if word = if nat_lt word (2 ^ 56) && (word % 8 == 0) then Some word else None

-- a word, where there is one and it may be an object's address
abbrev pub address_in : Option ℕ → Option ℕ
address_in None = None
address_in (Some word) = address_if word

-- the object to which a function of C is bound (`m_self` of `PyCFunctionObject`), where that is described
abbrev pub receiver_at : Memory → Option ℕ → Option ℕ → Found (Option ℕ)
receiver_at m None object = Ok None
receiver_at m (Some receiver) object = word_in m object receiver

-- the object that it is bound to, where it isn't waited for itself
abbrev pub through : Memory → WaitPlaces → Option ℕ → ℕ → Option Waited → Found (Option Waited)
through m p object at (Some own) = Ok (Some own)
through m p object at None = do
  receiver ← receiver_at m p.receiver object
  object_at m p (address_in receiver) at

-- what a word leads to
unfoldable pub slot_at : Memory → WaitPlaces → (at : ℕ) → Option ℕ → ℕ → Found (Option Waited)
slot_at m p at base behind = do
  word ← word_in m base behind
  own ← object_at m p (address_in word) at
  through m p (address_in word) at own

-- the object that was found before, else what a word of a frame leads to
abbrev pub slot_step : Memory → WaitPlaces → (at : ℕ) → Option ℕ → ℕ → Option Waited → Found (Option Waited)
slot_step m p at base behind (Some found) = Ok (Some found)
slot_step m p at base behind None = slot_at m p at base behind

-- ---- parked threads

-- an address, less so many bytes
abbrev pub less : ℕ → ℕ → Option ℕ
less address by = if nat_le by address then Some (address - by) else None

-- the object whose byte stands at an address
abbrev pub parked_object : Option Waitable → Option ℕ → Option ℕ
parked_object None mutex = None
parked_object (Some w) None = None
parked_object (Some w) (Some mutex) = less mutex w.place

-- an object of this kind, if its class is the type that is looked for
unfoldable pub parked_if : Option Waitable → Kind → Option ℕ → Option ℕ → Option Waited
parked_if w k object class = if is_of w class then as_waited k object else None

-- an object of this kind whose own byte stands at an address, if its class is the type that is looked for
unfoldable pub parked_as : Memory → ℕ → Option Waitable → Kind → Option ℕ → Found (Option Waited)
parked_as m klass w k mutex = do
  class ← word_in m (parked_object w mutex) klass
  Ok (parked_if w k (parked_object w mutex) class)

-- the lock that was found, else the queue whose byte stands at the address
abbrev pub parked_else : Memory → WaitPlaces → Option ℕ → Option Waited → Found (Option Waited)
parked_else m p mutex (Some lock) = Ok (Some lock)
parked_else m p mutex None = parked_as m p.klass p.parked_queue kind.Queue mutex

-- the lock or queue at which a parked thread waits, by the address in the word before its semaphore
unfoldable pub parked_at : Memory → WaitPlaces → (at : ℕ) → Found (Option Waited)
parked_at m p at = do
  mutex ← word_in m (less at 8) 0
  lock ← parked_as m p.klass p.parked_lock kind.Lock mutex
  parked_else m p mutex lock
