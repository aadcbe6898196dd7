-- What is told of a coroutine, a generator or an async generator: its name (`gi_name`, which has the same place in all
-- three, `_PyGenObject_HEAD`, Include/genobject.h) and how far it has come, by where it stands (py_coroutines). That each
-- part which can't be read is left out, and costs nothing else, is this project's rule.
use Rattle.std.specs.Prelude.{◌≡◌, ℕ, ◌+◌, Bool, true, false, List, Option, Some, None, Result, Ok, Err}
use Rattle.process_memory.specs.Memory.{Fault, Found, Memory, ◌>>=◌, word_at}
use Rattle.py_fields.specs.declared.layout.Layout.{Layout}
use Rattle.py_builtins.specs.declared.error.ObjectError.{ObjectError}
use Rattle.py_builtins.specs.declared.error.ObjectError.TheVariants.{OutOfMemory}
use Rattle.py_builtins.specs.ObjectError.{object_fault}
use Rattle.py_builtins.specs.Texts.{text_at}
use Rattle.py_coroutines.specs.declared.places.Family.{Family}
use Rattle.py_coroutines.specs.declared.standing.Standing.{Standing}
use Rattle.py_coroutines.specs.declared.standing.Standing.TheVariants as stands
use Rattle.py_coroutines.specs.Places.{is_sound_family}
use Rattle.py_coroutines.specs.Standings.{standing_at}
use Rattle.py_reprs.specs.declared.coroutines.CoroutineForm.{CoroutineForm}
use Rattle.py_reprs.specs.declared.coroutines.CoroutineRule.{CoroutineRule}
use Rattle.py_reprs.specs.declared.coroutines.CoroutineState.{CoroutineState}
use Rattle.py_reprs.specs.declared.coroutines.CoroutineState.TheVariants.{Created, Suspended, Running, Finished}
use Rattle.py_reprs.specs.Trees.{Tree}
use Rattle.py_reprs.specs.Trees.Tree.{Coroutine}

-- how far one has come, by where it stands
abbrev pub state_of : Standing → CoroutineState
state_of stands.Created = Created
state_of stands.Yielding = Suspended
state_of (stands.Awaiting top) = Suspended
state_of (stands.Suspended next top) = Suspended
state_of (stands.Coded code offset top) = Suspended
state_of stands.Running = Running
state_of stands.Finished = Finished

-- what was found, or none where it can't be read
abbrev pub if_found : {T : Type 0} → Found T → Option T
if_found (Ok x) = Some x
if_found (Err f) = None

-- the name that an object names at a place
unfoldable pub name_text_at : Layout → Memory → (place addr : ℕ) → Found (List ℕ)
name_text_at l m place a = do
  at ← word_at m (a + place)
  text_at l m at

-- the name of a coroutine or generator, where it can be read
unfoldable pub known_name_at : Layout → Memory → (place addr : ℕ) → Found (Option (List ℕ))
known_name_at l m place a = Ok (if_found (name_text_at l m place a))

-- how far the coroutine at an address has come
unfoldable pub stated_at : Memory → Family → (addr : ℕ) → Found CoroutineState
stated_at m family a = do
  standing ← standing_at family m a
  Ok (state_of standing)

-- the same, where what is read of each record lies inside it
abbrev pub state_if : Bool → Found CoroutineState → Option CoroutineState
state_if true found = if_found found
state_if false found = None

-- the state of a coroutine or generator, where its family is known and it can be read
unfoldable pub known_state_at : Memory → Family → (addr : ℕ) → Found (Option CoroutineState)
known_state_at m family a = Ok (state_if (is_sound_family family) (stated_at m family a))

-- the coroutine at an address, by where its name and its state stand
unfoldable pub coroutine_by : Layout → Memory → CoroutineRule → CoroutineForm → (addr : ℕ) → Found Tree
coroutine_by l m r form a = do
  name ← known_name_at l m r.name a
  state ← known_state_at m r.family a
  Ok (Coroutine form name state a)

-- the same, where it is said where these stand
unfoldable pub coroutine_at : Layout → Memory → Option CoroutineRule → CoroutineForm → (addr : ℕ) → Found Tree
coroutine_at l m None form a = Ok (Coroutine form None None a)
coroutine_at l m (Some r) form a = coroutine_by l m r form a

-- ---- as it is read

-- nothing is told for a fault; an error is out of memory
abbrev pub NoneBy : {T : Type 0} → Option Fault → Result (Option T) ObjectError → Type 0
NoneBy None result = result ≡ Err OutOfMemory
NoneBy (Some f) result = result ≡ Ok None

-- what was read, or none; out of memory is handed on
abbrev pub IsOrNone : {T : Type 0} → Result T ObjectError → Result (Option T) ObjectError → Type 0
IsOrNone (Ok x) result = result ≡ Ok (Some x)
IsOrNone (Err e) result = NoneBy (object_fault e) result
