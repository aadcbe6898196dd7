-- Objects that stand between a coroutine and what it awaits: which types they have, and what they hold, is CPython's
-- (Objects/genobject.c, Objects/iterobject.c, Modules/_asynciomodule.c). No module has these types, so that they are
-- told by all that such an object must be, which is this project's rule: its class has the name and the size, is none
-- that a program in Python made, and what it holds is of the kind that is wanted.
use Rattle.std.specs.Prelude.{ℕ, zero, suc, ◌+◌, ◌/◌, ◌%◌, ◌^◌, ◌&&◌, ◌||◌, nat_eq, Bool, true, false, codes, bytes_eq}
use Rattle.std.specs.Prelude.{◌≡◌, List, Option, Some, None, Result, Ok, Err, if◌then◌else◌}
use Rattle.elf64_core.specs.Nul.{until_nul}
use Rattle.process_memory.specs.Memory.{Found, Memory, ◌>>=◌, record_at, word_at}
use Rattle.process_memory.specs.declared.memory.ReadFault.{ReadFault}
use Rattle.process_memory.specs.declared.memory.ReadFault.TheVariants.{Unreadable, OutOfMemory}
use Rattle.py_coroutines.specs.declared.places.ClassPlaces.{ClassPlaces}
use Rattle.py_coroutines.specs.declared.places.Held.{Held}
use Rattle.py_coroutines.specs.declared.places.Holders.{Holders}
use Rattle.py_coroutines.specs.declared.places.Places.{Places}
use Rattle.py_coroutines.specs.declared.places.Wants.{Wants}
use Rattle.py_coroutines.specs.declared.places.Wants.TheVariants.{Class, Any, Future}
use Rattle.py_coroutines.specs.Awaits.{Turn}
use Rattle.py_coroutines.specs.Awaits.{Stop as stop}
use Rattle.py_coroutines.specs.Awaits.Turn.{To, Before}
use Rattle.py_coroutines.specs.Kinds.{is_future}

-- whether a text is there and is this name
abbrev pub is_text : List ℕ → Option (List ℕ) → Bool
is_text name None = false
is_text name (Some text) = bytes_eq text name

-- the bytes before the first nul are a name
unfoldable pub is_named : List ℕ → List ℕ → Bool
is_named chars name = is_text name (until_nul chars)

-- what an object between a coroutine and what it awaits must be, by its class's name
unfoldable pub holder_named : Holders → List ℕ → Option Held
holder_named h chars =
    if is_named chars (codes "coroutine_wrapper") then h.coroutine_wrapper
    else if is_named chars (codes "async_generator_asend") then h.asend
    else if is_named chars (codes "async_generator_athrow") then h.athrow
    else if is_named chars (codes "anext_awaitable") then h.anext_awaitable
    else if is_named chars (codes "_asyncio.FutureIter") then h.future_iter
    else None

-- a class that no program in Python made: it is none of the heap (bit 9, `Py_TPFLAGS_HEAPTYPE`), or one that can't be
-- changed (bit 8, `Py_TPFLAGS_IMMUTABLETYPE`)
unfoldable pub is_builtin : ℕ → Bool
is_builtin flags = nat_eq (flags / 2 ^ 9 % 2) 0 || nat_eq (flags / 2 ^ 8 % 2) 1

-- a class of these flags whose objects have so many bytes
unfoldable pub fits : Option Held → ℕ → ℕ → Option Held
fits None flags size = None
fits (Some held) flags size = if is_builtin flags && nat_eq held.size size then Some held else None

-- what such an object must be, by its class's name; none where the name can't be read
abbrev pub named_in : Holders → Found (List ℕ) → Option Held
named_in h (Ok chars) = holder_named h chars
named_in h (Err f) = None

-- by the name at an address; a name that isn't in memory is that of none
unfoldable pub named_at : Holders → Memory → ℕ → Found (Option Held)
named_at h m name = Ok (named_in h (record_at m name 128))

-- what becomes of a name that was not read
abbrev pub IsUnnamed : ReadFault → Result (Option Held) ReadFault → Type 0
IsUnnamed (Unreadable addr len) result = result ≡ Ok None
IsUnnamed OutOfMemory result = result ≡ Err OutOfMemory

-- what an object of the class at an address must be, where it is one of these
unfoldable pub holder_at : Holders → ClassPlaces → Memory → ℕ → Found (Option Held)
holder_at h c m class = do
  flags ← word_at m (class + c.flags)
  size ← word_at m (class + c.basic_size)
  name ← word_at m (class + c.name)
  holder ← named_at h m name
  Ok (fits holder flags size)

-- what is awaited where it is of the class that is wanted
abbrev pub if_wanted : Bool → (at class held : ℕ) → Turn
if_wanted true at class held = To held
if_wanted false at class held = Before (stop.Other at class)

-- an object that holds another one; 0 is none
unfoldable pub wanted_at : ClassPlaces → Memory → (at class : ℕ) → Wants → (held : ℕ) → Found Turn
wanted_at c m at class wants zero = Ok (Before (stop.Other at class))
wanted_at c m at class Any (suc held) = Ok (To (suc held))
wanted_at c m at class Future (suc held) = Ok (Before (stop.Future (suc held)))
wanted_at c m at class (Class wanted) (suc held) = do
  own ← word_at m (suc held + c.klass)
  Ok (if_wanted (nat_eq own wanted) at class (suc held))

-- an object of a class that may be one of these; else it is another one
unfoldable pub held_at : ClassPlaces → Memory → (at class : ℕ) → Option Held → Found Turn
held_at c m at class None = Ok (Before (stop.Other at class))
held_at c m at class (Some holder) = word_at m (at + holder.held) >>= wanted_at c m at class holder.wants

-- what an object awaits that is no coroutine: a chain ends before a future; any other is told by its class
abbrev pub not_future_at : Places → Memory → (at class : ℕ) → Bool → Found Turn
not_future_at p m at class true = Ok (Before (stop.Future at))
not_future_at p m at class false = holder_at p.holders p.class m class >>= held_at p.class m at class

-- what an object awaits that is no coroutine, by its class
unfoldable pub other_at : Places → Memory → (at class : ℕ) → Found Turn
other_at p m at class = not_future_at p m at class (is_future p.types class)
