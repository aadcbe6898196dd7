-- What an object is at which threads wait: by the address of its type, never by a name.
use Rattle.std.specs.Prelude.{ℕ, ◌==◌, ◌&&◌, not, Bool, true, false, Option, Some, None, if◌then◌else◌}
use Rattle.py_waits.specs.declared.places.Held.{Held}
use Rattle.py_waits.specs.declared.places.Kind.TheVariants as kind
use Rattle.py_waits.specs.declared.places.WaitPlaces.{WaitPlaces}
use Rattle.py_waits.specs.declared.places.Waitable.{Waitable}

-- an object is of a type, by the word of its class; 0 is no type's address
abbrev pub is_of : Option Waitable → Option ℕ → Bool
is_of None class = false
is_of (Some w) None = false
is_of (Some w) (Some class) = not (class == 0) && (w.class == class)

-- where an object has its semaphore or byte, in bytes; 0 where no such type is known
abbrev pub place_of : Option Waitable → ℕ
place_of None = 0
place_of (Some w) = w.place

-- what an object with a semaphore is: a lock, a reentrant lock (Modules/_threadmodule.c), or a queue
-- (Modules/_queuemodule.c)
unfoldable pub held_kind : WaitPlaces → Option ℕ → Option Held
held_kind p class =
    if is_of p.lock class then Some (record { kind = kind.Lock; place = place_of p.lock })
    else if is_of p.rlock class then Some (record { kind = kind.Rlock; place = place_of p.rlock })
    else if is_of p.queue class then Some (record { kind = kind.Queue; place = place_of p.queue })
    else None
