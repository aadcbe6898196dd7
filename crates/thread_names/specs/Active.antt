-- The dict of an interpreter's threads. That the module `threading` has its threads under `_active`, by their ids, is
-- CPython's (`Lib/threading.py`); that so many slots of each dict on the way are looked at is this project's rule.
use Rattle.std.specs.Prelude.{ℕ, ◌+◌, Option, Some, None, codes, option_map, Result, Ok, Err}
use Rattle.process_memory.specs.Memory.{Memory, Found, ◌>>=◌, word_at}
use Rattle.process_memory.specs.Memory.Fault.{NoDicts}
use Rattle.py_fields.specs.declared.layout.Dicts.{Dicts}
use Rattle.py_fields.specs.declared.layout.Dicts.TheVariants.{Absent, General, Compact}
use Rattle.py_fields.specs.declared.layout.Layout.{Layout}
use Rattle.py_builtins.specs.declared.keys.Slots.{Slots}
use Rattle.py_builtins.specs.Dicts.{Cursor, dict_slots}
use Rattle.py_builtins.specs.Types.{type_at}
use Rattle.py_names.specs.Search.{find_from}
use Rattle.py_names.specs.Typed.{plain_slots}

-- the slots of the dict at an address, where there is one
unfoldable pub dict_in : Layout → Memory → Option ℕ → Found (Option Slots)
dict_in l m None = Ok None
dict_in l m (Some dict) = do
  slots ← dict_slots l m dict
  Ok (Some slots)

-- those of the dict of threads that a module has, where there is a module
unfoldable pub active_in : Layout → Memory → Option ℕ → Found (Option Slots)
active_in l m None = Ok None
active_in l m (Some a) = do
  t ← type_at l m a
  slots ← plain_slots l m a t
  search ← find_from l m (codes "_active") slots slots.count 0 65536
  dict_in l m search.found

-- the dict `threading._active` of an interpreter (Lib/threading.py)
unfoldable pub interpreter_active_at : Layout → Memory → ℕ → Found (Option Slots)
interpreter_active_at l m interpreter = do
  modules ← word_at m (interpreter + l.interpreter.modules)
  slots ← dict_slots l m modules
  search ← find_from l m (codes "threading") slots slots.count 0 65536
  active_in l m search.found

-- the same by the family of dicts; without dicts there is none
abbrev pub active_by : Dicts → Found (Option Slots) → Found (Option Slots)
active_by Absent slots = Err NoDicts
active_by General slots = slots
active_by Compact slots = slots

-- those of an interpreter's own dict of threads; none where it has no such module, or that no such dict
unfoldable pub active_at : Layout → Memory → ℕ → Found (Option Slots)
active_at l m interpreter = active_by l.dicts (interpreter_active_at l m interpreter)

-- ---- as it is read

-- the slots of a dict, where there is one
abbrev pub slots_of : Option Cursor → Option Slots
slots_of dict = option_map (λ (c : Cursor). c.slots) dict

-- a result with the slots of a dict
abbrev pub slots_if : {E : Type 0} → Result (Option Cursor) E → Result (Option Slots) E
slots_if (Ok dict) = Ok (slots_of dict)
slots_if (Err e) = Err e
