-- Where the parts of coroutines stand: which places can be read. That what is read of a record lies inside it is this
-- project's rule; which fields there are is CPython's (Include/genobject.h, Include/frameobject.h, from 3.11 on
-- Include/cpython/genobject.h and Include/internal/pycore_frame.h).
use Rattle.std.specs.Prelude.{ℕ, ◌+◌, ◌<◌, ◌≤◌, ◌^◌, nat_le, nat_lt, Bool, true, ◌&&◌, Option, Some, None, IfSome}
use Rattle.py_coroutines.specs.declared.places.ApartPlaces.{ApartPlaces}
use Rattle.py_coroutines.specs.declared.places.ApartStack.{ApartStack}
use Rattle.py_coroutines.specs.declared.places.ApartStack.TheVariants.{Pointer, Depth}
use Rattle.py_coroutines.specs.declared.places.Family.{Family}
use Rattle.py_coroutines.specs.declared.places.Family.TheVariants.{Apart, Inside}
use Rattle.py_coroutines.specs.declared.places.InsidePlaces.{InsidePlaces}
use Rattle.py_coroutines.specs.declared.places.Places.{Places}

-- the parts of a frame object's stack lie in its record of so many bytes
abbrev pub IsSoundStack : ApartStack → ℕ → Type 0
IsSoundStack (Pointer top) size = top + 8 ≤ size
IsSoundStack (Depth bottom depth state states) size = (bottom + 8 ≤ size) × ((depth + 4 ≤ size) × (state + 1 ≤ size))

-- what is read of a coroutine and of its frame object lies inside their records (up to 3.10)
pub record IsSoundApart (p : ApartPlaces) : Type 0 where
  pub frame : p.frame + 8 ≤ p.size
  pub running : IfSome p.running (λ place. place + 1 ≤ p.size)
  pub size : p.size < 2 ^ 16
  pub code : p.code + 8 ≤ p.frame_size
  pub last : p.last + 4 ≤ p.frame_size
  pub stack : IsSoundStack p.stack p.frame_size
  pub frame_size : p.frame_size < 2 ^ 16

-- what is read of a coroutine with its frame inside lies inside its record (from 3.11 on)
pub record IsSoundInside (p : InsidePlaces) : Type 0 where
  pub state : p.state + 1 ≤ p.size
  pub instruction : p.frame + p.instruction + 8 ≤ p.size
  pub depth : p.frame + p.depth + 4 ≤ p.size
  pub size : p.size < 2 ^ 16

-- what is read of each record lies inside it
abbrev pub IsSoundFamily : Family → Type 0
IsSoundFamily (Apart p) = IsSoundApart p
IsSoundFamily (Inside p) = IsSoundInside p

-- what is read of each record lies inside it
abbrev pub IsSound : Places → Type 0
IsSound p = IsSoundFamily p.family

-- ---- the same as a test

-- whether a field that ends behind so many bytes lies inside a record of this size
abbrev pub lies : ℕ → ℕ → Bool
lies end size = nat_le end size

-- whether a byte lies inside a record of this size, where the record has it
abbrev pub lies_if_there : Option ℕ → ℕ → Bool
lies_if_there None size = true
lies_if_there (Some place) size = lies (place + 1) size

-- whether the parts of a frame object's stack lie in its record of so many bytes
abbrev pub is_sound_stack : ApartStack → ℕ → Bool
is_sound_stack (Pointer top) size = lies (top + 8) size
is_sound_stack (Depth bottom depth state states) size = lies (bottom + 8) size && lies (depth + 4) size && lies (state + 1) size

-- whether what is read of a coroutine and of its frame object lies inside their records
abbrev pub is_sound_apart : ApartPlaces → Bool
is_sound_apart p = lies (p.frame + 8) p.size && lies_if_there p.running p.size && nat_lt p.size (2 ^ 16)
    && lies (p.code + 8) p.frame_size && lies (p.last + 4) p.frame_size && is_sound_stack p.stack p.frame_size
    && nat_lt p.frame_size (2 ^ 16)

-- whether what is read of a coroutine with its frame inside lies inside its record
abbrev pub is_sound_inside : InsidePlaces → Bool
is_sound_inside p = lies (p.state + 1) p.size && lies (p.frame + p.instruction + 8) p.size
    && lies (p.frame + p.depth + 4) p.size && nat_lt p.size (2 ^ 16)

-- whether what is read of each record of coroutines lies inside it
abbrev pub is_sound_family : Family → Bool
is_sound_family (Apart p) = is_sound_apart p
is_sound_family (Inside p) = is_sound_inside p
