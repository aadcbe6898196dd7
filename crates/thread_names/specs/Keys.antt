-- The threads that the dict of threads has, slot by slot: the key of each is the thread's id, as 8 bytes, which is
-- CPython's (`Lib/threading.py`). That so many slots are looked at is this project's rule.
use Rattle.std.specs.Prelude.{◌≡◌, ℕ, zero, suc, ◌+◌, ◌-◌, min, Option, Some, None, List, [], ◌∷◌, ◌++◌}
use Rattle.std.specs.Prelude.{MatchOption, Result, Ok, Err, option_map, reverse, ◌==◌}
use Rattle.std.specs.Int.{w64, cast_unsigned}
use Rattle.std.specs.BTreeMap.{BTreeMap, get}
use Rattle.std.specs.List.{find}
use Rattle.std.specs.Ordering.{nat_cmp}
use Rattle.process_memory.specs.Memory.{Memory, Found, ◌>>=◌}
use Rattle.py_fields.specs.declared.layout.Layout.{Layout}
use Rattle.py_builtins.specs.declared.keys.Slots.{Slots}
use Rattle.py_builtins.specs.declared.dicts.Slot.{Slot}
use Rattle.py_builtins.specs.declared.dicts.Slot.TheVariants.{Empty, Entry}
use Rattle.py_builtins.specs.Dicts.{slot_at}
use Rattle.py_builtins.specs.Integers.{long_at}
use Rattle.py_names.specs.declared.names_error.NamesError.{NamesError}
use Rattle.py_names.specs.NamesError.{names_fault}
use Rattle.thread_names.specs.declared.keys.Keyed.{Keyed}
use Rattle.thread_names.specs.declared.keys.Keys.{Keys}

-- a thread's id and the address of its `threading.Thread`
abbrev pub keyed : (id thread : ℕ) → Keyed
keyed id thread = record { id = id; thread = thread }

-- the entry that a slot has
unfoldable pub slot_key : Layout → Memory → Slot → Found (Option Keyed)
slot_key l m Empty = Ok None
slot_key l m (Entry key thread) = do
  number ← long_at l m key
  Ok (Some (keyed (cast_unsigned w64 number.0) thread))

-- the same of the slot of a number
unfoldable pub key_at : Layout → Memory → Slots → ℕ → Found (Option Keyed)
key_at l m s number = slot_at m s number >>= slot_key l m

-- entries by their ids, and how many more slots there are
pub record KeysTold : Type 0 where
  pub list : List Keyed
  pub unread : ℕ

-- one slot more: its entry, none, or one that can't be read
abbrev pub with_key : KeysTold → Found (Option Keyed) → KeysTold
with_key k (Ok None) = k
with_key k (Ok (Some x)) = record { list = k.list ++ x ∷ []; unread = k.unread }
with_key k (Err f) = record { list = k.list; unread = k.unread + 1 }

-- those of the first so many slots, in order
unfoldable pub keys_below : Layout → Memory → Slots → ℕ → KeysTold
keys_below l m s zero = record { list = []; unread = 0 }
keys_below l m s (suc n) = with_key (keys_below l m s n) (key_at l m s n)

-- keys with so many more that can't be read
abbrev pub with_more : KeysTold → ℕ → KeysTold
with_more k more = record { list = k.list; unread = k.unread + more }

-- those of a dict's first 65536 slots; the others count as unread
unfoldable pub keys_in : Layout → Memory → Slots → KeysTold
keys_in l m s = with_more (keys_below l m s (min s.count 65536)) (s.count - min s.count 65536)

-- the thread of an id: the last one under it
abbrev pub thread_under : List Keyed → ℕ → Option ℕ
thread_under keys id = option_map (λ k. k.thread) (find (λ k. k.id == id) (reverse keys))

-- ---- as it is read

-- the keys that were read, and how many can't be
abbrev pub keys_of : Keys → KeysTold
keys_of k = record { list = k.list.items; unread = k.unread }

-- what was read of a slot is added; out of memory is handed on
abbrev pub KeyAdded : Keys → Keys → Result (Option Keyed) NamesError → Type 0
KeyAdded old new (Ok read) = keys_of new ≡ with_key (keys_of old) (Ok read)
KeyAdded old new (Err e) = MatchOption (names_fault e) ⊥ (λ f. keys_of new ≡ with_key (keys_of old) (Err f))

-- a map has for each id the last thread under it
abbrev pub HasThreads : BTreeMap ℕ ℕ → List Keyed → Type 0
HasThreads threads keys = (id : ℕ) → get nat_cmp threads id ≡ thread_under keys id
