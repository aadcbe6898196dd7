-- What a member of a chain is, and where its frame stands: up to 3.10 its record names a frame object, from 3.11 on the
-- frame is inside (`_PyGenObject_HEAD`, Include/genobject.h and Include/cpython/genobject.h).
use Rattle.std.specs.Prelude.{ℕ, ◌+◌, ◌^◌, nat_eq, nat_lt, List, Option, Some, None, Ok, if◌then◌else◌}
use Rattle.elf64_core.specs.Fields.{u64_in, u8_in}
use Rattle.process_memory.specs.Memory.{Found, Memory, ◌>>=◌, record_at, word_at}
use Rattle.py_coroutines.specs.declared.kinds.Kind.{Kind}
use Rattle.py_coroutines.specs.declared.places.ApartPlaces.{ApartPlaces}
use Rattle.py_coroutines.specs.declared.places.Family.{Family}
use Rattle.py_coroutines.specs.declared.places.Family.TheVariants.{Apart, Inside}
use Rattle.py_coroutines.specs.declared.places.InsidePlaces.{InsidePlaces}
use Rattle.py_coroutines.specs.declared.places.Places.{Places}
use Rattle.py_coroutines.specs.declared.standing.State.{State}
use Rattle.py_coroutines.specs.declared.standing.State.TheVariants.{Created, Yielding, Awaiting, Suspended}
use Rattle.py_coroutines.specs.declared.standing.State.TheVariants.{Running, Finished}
use Rattle.py_coroutines.specs.Kinds.{kind_of}
use Rattle.py_coroutines.specs.Standings.{state_of}

-- what the object at an address is, by its class
unfoldable pub kind_at : Places → Memory → ℕ → Found (Option Kind)
kind_at p m a = do
  class ← word_at m (a + p.class.klass)
  Ok (kind_of p.types class)

-- an address, where there is such a one
abbrev pub address_if : ℕ → Option ℕ
address_if a = if nat_lt a (2 ^ 64) then Some a else None

-- a finished one has no frame any more
abbrev pub place_by : ℕ → State → Option ℕ
place_by a Created = address_if a
place_by a Yielding = address_if a
place_by a Awaiting = address_if a
place_by a Suspended = address_if a
place_by a Running = address_if a
place_by a Finished = None

-- where the frame inside a coroutine stands, by the coroutine's record; none of a finished one
unfoldable pub inside_place : InsidePlaces → ℕ → List ℕ → Option ℕ
inside_place p a bytes = place_by (a + p.frame) (state_of p.states (u8_in bytes p.state))

-- the frame object that a coroutine's record names; none where it names none
unfoldable pub apart_place : ApartPlaces → List ℕ → Option ℕ
apart_place p bytes = if nat_eq (u64_in bytes p.frame) 0 then None else Some (u64_in bytes p.frame)

-- where the frame inside the coroutine at an address stands (from 3.11 on)
unfoldable pub inside_place_at : InsidePlaces → Memory → ℕ → Found (Option ℕ)
inside_place_at p m a = do
  bytes ← record_at m a p.size
  Ok (inside_place p a bytes)

-- the frame object of the coroutine at an address (up to 3.10)
unfoldable pub apart_place_at : ApartPlaces → Memory → ℕ → Found (Option ℕ)
apart_place_at p m a = do
  bytes ← record_at m a p.size
  Ok (apart_place p bytes)

-- where the frame of the coroutine at an address stands
abbrev pub frame_place_at : Family → Memory → ℕ → Found (Option ℕ)
frame_place_at (Apart p) m a = apart_place_at p m a
frame_place_at (Inside p) m a = inside_place_at p m a
