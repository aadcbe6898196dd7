-- The first entry of a dict under a name. How many slots may still be looked at is counted down on the way: that
-- there are so many at most, over all searches for names, is this project's rule.
use Rattle.std.specs.Prelude.{ℕ, zero, suc, if◌then◌else◌, ◌+◌, Option, Some, None, List, bytes_eq, encode_utf8_all, Ok}
use Rattle.std.specs.Prelude.{Err}
use Rattle.process_memory.specs.Memory.{Memory, Found, ◌>>=◌}
use Rattle.process_memory.specs.Memory.Fault.{Entries}
use Rattle.py_fields.specs.declared.layout.Layout.{Layout}
use Rattle.py_builtins.specs.declared.keys.Slots.{Slots}
use Rattle.py_builtins.specs.declared.dicts.Slot.{Slot}
use Rattle.py_builtins.specs.declared.dicts.Slot.TheVariants.{Empty, Entry}
use Rattle.py_builtins.specs.Dicts.{slot_at}
use Rattle.py_builtins.specs.Texts.{text_at}
use Rattle.py_names.specs.declared.search.Looked.{Looked}

-- the value that a slot has under a name: none where it is empty or its key is another text
unfoldable pub value_named : Layout → Memory → List ℕ → Slot → Found (Option ℕ)
value_named l m name Empty = Ok None
value_named l m name (Entry key value) = do
  text ← text_at l m key
  Ok (if bytes_eq (encode_utf8_all text) name then Some value else None)

-- the same of the slot of a number
unfoldable pub named_value_at : Layout → Memory → List ℕ → Slots → ℕ → Found (Option ℕ)
named_value_at l m name s number = slot_at m s number >>= value_named l m name

-- what was found, and how many slots may be looked at then
abbrev pub looked : Option ℕ → ℕ → Looked
looked found left = record { found = found; left = left }

-- a value that was found, else the rest of the search
abbrev pub or_go_on : Option ℕ → ℕ → Found Looked → Found Looked
or_go_on None left rest = rest
or_go_on (Some value) left rest = Ok (looked (Some value) left)

-- the value of the first entry under a name, among `n` slots from a number on
unfoldable pub find_from : Layout → Memory → List ℕ → Slots → ℕ → ℕ → ℕ → Found Looked
find_from l m name s zero number left = Ok (looked None left)
find_from l m name s (suc n) number zero = Err Entries
find_from l m name s (suc n) number (suc left) = do
  value ← named_value_at l m name s number
  or_go_on value left (find_from l m name s n (number + 1) left)

-- ---- how many slots are looked at

-- those behind one: none where it has the name, or can't be read
abbrev pub looked_behind : Found (Option ℕ) → ℕ → ℕ
looked_behind (Ok None) rest = rest
looked_behind (Ok (Some value)) rest = 0
looked_behind (Err f) rest = 0

-- up to the first slot that has the name or can't be read, among `n` slots from a number on
unfoldable pub find_looked : Layout → Memory → List ℕ → Slots → ℕ → ℕ → ℕ → ℕ
find_looked l m name s zero number left = 0
find_looked l m name s (suc n) number zero = 0
find_looked l m name s (suc n) number (suc left) =
    1 + looked_behind (named_value_at l m name s number) (find_looked l m name s n (number + 1) left)

-- what was found of what comes first has so many
abbrev pub looked_in : {T : Type 0} → Found T → (T → ℕ) → ℕ
looked_in (Ok x) count = count x
looked_in (Err f) count = 0
