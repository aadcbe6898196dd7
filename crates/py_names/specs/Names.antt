-- The names of an interpreter's threads, as its module `threading` keeps them: four searches over the slots of
-- dicts. That the module has its threads under `_active`, by their ids, and a thread its own name under `_name`,
-- is CPython's (`Lib/threading.py`); that so many slots are looked at in all, at most, is this project's rule.
use Rattle.std.specs.Prelude.{◌≡◌, IsOkAnd, ℕ, zero, suc, ◌+◌, ◌*◌, ◌==◌, Option, Some, None, List, [], ◌∷◌, ◌++◌}
use Rattle.std.specs.Prelude.{codes, Result, Ok, Err, option_map, reverse}
use Rattle.std.specs.Int.{w64, cast_unsigned}
use Rattle.std.specs.List.{find}
use Rattle.std.specs.Ordering.{nat_cmp}
use Rattle.std.specs.BTreeMap.{BTreeMap, get}
use Rattle.process_memory.specs.Memory.{Memory, Found, ◌>>=◌, word_at}
use Rattle.process_memory.specs.Memory.Fault.{NoDicts, Entries}
use Rattle.py_fields.specs.declared.layout.Dicts.{Dicts}
use Rattle.py_fields.specs.declared.layout.Dicts.TheVariants.{Absent, General, Compact}
use Rattle.py_fields.specs.declared.layout.Layout.{Layout}
use Rattle.py_builtins.specs.declared.keys.Slots.{Slots}
use Rattle.py_builtins.specs.declared.dicts.Slot.{Slot}
use Rattle.py_builtins.specs.declared.dicts.Slot.TheVariants.{Empty, Entry}
use Rattle.py_builtins.specs.Dicts.{dict_slots, slot_at}
use Rattle.py_builtins.specs.Integers.{long_at}
use Rattle.py_builtins.specs.Texts.{text_at}
use Rattle.py_builtins.specs.Types.{type_at}
use Rattle.py_names.specs.declared.names.Given.{Given}
use Rattle.py_names.specs.declared.names.Named.{Named}
use Rattle.process_memory.specs.Seen.{FaultIs}
use Rattle.py_names.specs.declared.names_error.NamesError.{NamesError}
use Rattle.py_names.specs.NamesError.{names_fault}
use Rattle.py_names.specs.Search.{find_from, find_looked, looked_in}
use Rattle.py_names.specs.Typed.{plain_slots, typed_slots}

-- how many slots are looked at, at most
abbrev pub slot_limit : ℕ
slot_limit = 65536

-- a thread's id and name
abbrev pub named_thread : ℕ → List ℕ → Named
named_thread id name = record { id = id; name = name }

-- what a slot gives, and how many slots may be looked at then
abbrev pub given : Option Named → ℕ → Given
given n left = record { named = n; left = left }

-- the name at an address, under an id; none where there is none
unfoldable pub given_name_at : Layout → Memory → ℕ → Option ℕ → Found (Option Named)
given_name_at l m id None = Ok None
given_name_at l m id (Some a) = text_at l m a >>= (λ name. Ok (Some (named_thread id name)))

-- an entry of the dict of threads: its key is the thread's id, as 8 bytes, and its value the thread, whose dict
-- has its name
unfoldable pub entry_in : Layout → Memory → ℕ → ℕ → ℕ → Found Given
entry_in l m key value left = do
  id ← long_at l m key
  t ← type_at l m value
  slots ← typed_slots l m value t
  search ← find_from l m (codes "_name") slots slots.count 0 left
  name ← given_name_at l m (cast_unsigned w64 id.0) search.found
  Ok (given name search.left)

-- the thread of an entry of `threading._active`, with its name
unfoldable pub thread_in : Layout → Memory → ℕ → Slot → Found Given
thread_in l m left Empty = Ok (given None left)
thread_in l m left (Entry key value) = entry_in l m key value left

-- what the slot of a number gives
unfoldable pub thread_at : Layout → Memory → Slots → ℕ → ℕ → Found Given
thread_at l m s number left = slot_at m s number >>= thread_in l m left

-- a name in a list; nothing where there is none
abbrev pub kept_name : Option Named → List Named
kept_name None = []
kept_name (Some n) = n ∷ []

-- the names of `n` slots from a number on, in order
unfoldable pub names_from : Layout → Memory → Slots → ℕ → ℕ → ℕ → Found (List Named)
names_from l m s zero number left = Ok []
names_from l m s (suc n) number zero = Err Entries
names_from l m s (suc n) number (suc left) = do
  thread ← thread_at l m s number left
  rest ← names_from l m s n (number + 1) thread.left
  Ok (kept_name thread.named ++ rest)

-- those of the dict of threads at an address, where there is one
unfoldable pub named_threads_at : Layout → Memory → Option ℕ → ℕ → Found (List Named)
named_threads_at l m None left = Ok []
named_threads_at l m (Some dict) left = do
  slots ← dict_slots l m dict
  names_from l m slots slots.count 0 left

-- those that the module at an address keeps, where there is one
unfoldable pub module_names_at : Layout → Memory → Option ℕ → ℕ → Found (List Named)
module_names_at l m None left = Ok []
module_names_at l m (Some a) left = do
  t ← type_at l m a
  slots ← plain_slots l m a t
  search ← find_from l m (codes "_active") slots slots.count 0 left
  named_threads_at l m search.found search.left

-- those of an interpreter's threads, in the order of their dict
unfoldable pub interpreter_names_at : Layout → Memory → ℕ → Found (List Named)
interpreter_names_at l m interpreter = do
  modules ← word_at m (interpreter + l.interpreter.modules)
  slots ← dict_slots l m modules
  search ← find_from l m (codes "threading") slots slots.count 0 slot_limit
  module_names_at l m search.found search.left

-- the names by the family of dicts; without dicts there are none
abbrev pub names_by : Dicts → Found (List Named) → Found (List Named)
names_by Absent names = Err NoDicts
names_by General names = names
names_by Compact names = names

-- the same, where the layout has dicts
unfoldable pub names_at : Layout → Memory → ℕ → Found (List Named)
names_at l m interpreter = names_by l.dicts (interpreter_names_at l m interpreter)

-- ---- how many slots are looked at

-- the slots of the thread that an entry of the dict of threads holds
unfoldable pub thread_slots : Layout → Memory → ℕ → ℕ → Found Slots
thread_slots l m key value = do
  id ← long_at l m key
  t ← type_at l m value
  typed_slots l m value t

-- how many slots are looked at for the name of an entry
unfoldable pub entry_looked : Layout → Memory → ℕ → ℕ → ℕ → ℕ
entry_looked l m key value left =
    looked_in (thread_slots l m key value) (λ slots. find_looked l m (codes "_name") slots slots.count 0 left)

-- how many slots are looked at for the name in a slot
abbrev pub slot_looked : Layout → Memory → ℕ → Slot → ℕ
slot_looked l m left Empty = 0
slot_looked l m left (Entry key value) = entry_looked l m key value left

-- how many slots are looked at for the name of the thread of this number
unfoldable pub thread_looked : Layout → Memory → Slots → ℕ → ℕ → ℕ
thread_looked l m s number left = looked_in (slot_at m s number) (slot_looked l m left)

-- those of `n` slots from a number on, and in each thread's dict those of the search for its name
unfoldable pub each_looked : Layout → Memory → Slots → ℕ → ℕ → ℕ → ℕ
each_looked l m s zero number left = 0
each_looked l m s (suc n) number zero = 0
each_looked l m s (suc n) number (suc left) = 1 + (thread_looked l m s number left
    + looked_in (thread_at l m s number left) (λ thread. each_looked l m s n (number + 1) thread.left))

-- how many slots are looked at for the names in `threading._active`
unfoldable pub threads_looked : Layout → Memory → Option ℕ → ℕ → ℕ
threads_looked l m None left = 0
threads_looked l m (Some dict) left =
    looked_in (dict_slots l m dict) (λ slots. each_looked l m slots slots.count 0 left)

-- the slots of a module's dict
unfoldable pub module_slots : Layout → Memory → ℕ → Found Slots
module_slots l m a = type_at l m a >>= plain_slots l m a

-- those of a search, and of what comes behind what it found
abbrev pub search_looked : Layout → Memory → List ℕ → ℕ → (Option ℕ → ℕ → ℕ) → Slots → ℕ
search_looked l m name left behind slots = find_looked l m name slots slots.count 0 left
    + looked_in (find_from l m name slots slots.count 0 left) (λ search. behind search.found search.left)

-- how many slots are looked at in a module
unfoldable pub module_looked : Layout → Memory → Option ℕ → ℕ → ℕ
module_looked l m None left = 0
module_looked l m (Some a) left =
    looked_in (module_slots l m a) (search_looked l m (codes "_active") left (threads_looked l m))

-- the slots of an interpreter's dict of modules (`sys.modules`)
unfoldable pub modules_slots : Layout → Memory → ℕ → Found Slots
modules_slots l m interpreter = word_at m (interpreter + l.interpreter.modules) >>= dict_slots l m

-- how many slots of all these dicts are looked at, empty ones too
unfoldable pub slots_looked_at : Layout → Memory → ℕ → ℕ
slots_looked_at l m interpreter =
    looked_in (modules_slots l m interpreter) (search_looked l m (codes "threading") slot_limit (module_looked l m))

-- ---- as a map

-- the name of the thread of an id: the last one under it
abbrev pub name_under : List Named → ℕ → Option (List ℕ)
name_under names id = option_map (λ n. n.name) (find (λ n. n.id == id) (reverse names))

-- a map has for each id the last name under it
abbrev pub HasNames : BTreeMap ℕ (List ℕ) → List Named → Type 0
HasNames names list = (id : ℕ) → get nat_cmp names id ≡ name_under list id

-- the names of threads are those of memory
abbrev pub NamesAre : Found (List Named) → Result (BTreeMap ℕ (List ℕ)) NamesError → Type 0
NamesAre d (Ok names) = IsOkAnd d (HasNames names)
NamesAre d (Err e) = FaultIs d (names_fault e)

-- a map of the names that are found, or their fault; out of memory is free
pub record AnswersNames (d : Found (List Named)) (result : Result (BTreeMap ℕ (List ℕ)) NamesError) : Type 0 where
  pub is : NamesAre d result

-- how many reads they take at most
abbrev pub names_cost : Layout → Memory → ℕ → ℕ
names_cost l m interpreter = 10 + 12 * slots_looked_at l m interpreter
