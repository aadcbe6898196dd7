-- What an object awaits. That an object's class is a word of it, and how a frame that awaits is told, is CPython's: up
-- to 3.10 the instruction behind its last one is `YIELD_FROM`, in 3.11 and 3.12 it is `RESUME` with an argument of 2 or
-- more (Python/ceval.c, `_PyGen_yf` in Objects/genobject.c); what it awaits is on top of its stack.
use Rattle.std.specs.Prelude.{ℕ, ◌+◌, nat_eq, nat_le, Bool, true, false, ◌||◌, ◌&&◌, List, Option, Some, None, Ok, Err}
use Rattle.elf64_core.specs.Fields.{u8_in}
use Rattle.process_memory.specs.Memory.{Found, Memory, ◌>>=◌, record_at, word_at}
use Rattle.py_coroutines.specs.declared.kinds.Kind.{Kind}
use Rattle.py_coroutines.specs.declared.places.CodePlaces.{CodePlaces}
use Rattle.py_coroutines.specs.declared.places.Places.{Places}
use Rattle.py_coroutines.specs.declared.standing.Standing.{Standing}
use Rattle.py_coroutines.specs.declared.standing.Standing.TheVariants.{Created, Yielding, Awaiting, Suspended, Coded}
use Rattle.py_coroutines.specs.declared.standing.Standing.TheVariants.{Running, Finished}
use Rattle.py_coroutines.specs.Awaits.{Turn}
use Rattle.py_coroutines.specs.Awaits.{Stop as stop}
use Rattle.py_coroutines.specs.Awaits.Turn.{To, Last, Before}
use Rattle.py_coroutines.specs.Holders.{other_at}
use Rattle.py_coroutines.specs.Kinds.{kind_of}
use Rattle.py_coroutines.specs.Standings.{standing_at}

-- whether the instruction behind the last one of a frame is that of one that awaits
unfoldable pub resumes : CodePlaces → List ℕ → Bool
resumes c pair =
    (nat_eq (u8_in pair 0) c.first || nat_eq (u8_in pair 0) c.second) && nat_le c.least (u8_in pair 1)

-- what the word on top of a stack names
unfoldable pub top_at : Memory → Option ℕ → Found Turn
top_at m None = Ok (Last stop.NoTop)
top_at m (Some top) = do
  next ← word_at m top
  Ok (To next)

-- what a suspended coroutine awaits: what is on top of its stack, or nothing where it only yields
abbrev pub if_awaits : Memory → Option ℕ → Bool → Found Turn
if_awaits m top true = top_at m top
if_awaits m top false = Ok (Last stop.Yielding)

-- a suspended one, by the instruction behind its last one
unfoldable pub code_turn_at : CodePlaces → Memory → ℕ → Option ℕ → Found Turn
code_turn_at c m next top = do
  pair ← record_at m next 2
  if_awaits m top (resumes c pair)

-- the same, where that one stands so far behind the first one of the code at an address
unfoldable pub coded_turn_at : CodePlaces → Memory → ℕ → ℕ → Option ℕ → Found Turn
coded_turn_at c m code offset top = do
  bytecode ← word_at m (code + c.bytecode)
  code_turn_at c m (bytecode + c.start + offset) top

-- what a coroutine awaits, by where it stands
unfoldable pub awaited_at : CodePlaces → Memory → Standing → Found Turn
awaited_at c m Created = Ok (Last stop.Created)
awaited_at c m Yielding = Ok (Last stop.Yielding)
awaited_at c m (Awaiting top) = top_at m top
awaited_at c m (Suspended next top) = code_turn_at c m next top
awaited_at c m (Coded code offset top) = coded_turn_at c m code offset top
awaited_at c m Running = Ok (Last stop.Running)
awaited_at c m Finished = Ok (Last stop.Finished)

-- what the coroutine at an address awaits
unfoldable pub coroutine_at : Places → Memory → ℕ → Found Turn
coroutine_at p m a = do
  standing ← standing_at p.family m a
  awaited_at p.code m standing

-- a coroutine is a member, also where what it awaits is not known
abbrev pub member_by : Found Turn → Turn
member_by (Ok turn) = turn
member_by (Err f) = Last (stop.Lost f)

-- what stands at an address that is no coroutine: a chain ends before it where that can't be read
abbrev pub other_by : Found Turn → Turn
other_by (Ok turn) = turn
other_by (Err f) = Before (stop.Lost f)

-- what stands at an address, by whether it is a coroutine or another object
abbrev pub by_kind : Places → Memory → ℕ → ℕ → Option Kind → Turn
by_kind p m a class (Some kind) = member_by (coroutine_at p m a)
by_kind p m a class None = other_by (other_at p m a class)

-- what stands at an address, by its class; a chain ends before it where that can't be read
abbrev pub by_class : Places → Memory → ℕ → Found ℕ → Turn
by_class p m a (Ok class) = by_kind p m a class (kind_of p.types class)
by_class p m a (Err f) = Before (stop.Lost f)

-- what stands at an address: a member and what it awaits, or how a chain ends there
unfoldable pub turn_at : Places → Memory → ℕ → Turn
turn_at p m a = by_class p m a (word_at m (a + p.class.klass))
