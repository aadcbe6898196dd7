-- The first entries of a dict, and the first members of a set, by their slots. A slot of a dict without a key is empty, and
-- so is one without a value, which a dict has whose keys are shared (Objects/dictobject.c). A set has `mask` + 1 slots of a
-- key and a hash, of which one without a key is empty, and a hash of -1 is that of a member that was taken away
-- (Include/cpython/setobject.h, Objects/setobject.c). How many a dict or a set has it states: it is its first field, or
-- its second. That at most four slots are looked at for each item that may be shown is this project's rule.
use Rattle.std.specs.Prelude.{◌≡◌, ℕ, zero, suc, ◌+◌, ◌-◌, ◌*◌, ◌^◌, ◌==◌, nat_lt, min, if◌then◌else◌, Option, Some, None}
use Rattle.std.specs.Prelude.{List, [], ◌∷◌, ◌++◌, length, map, take, Result, Ok, Err}
use Rattle.elf64_core.specs.Fields.{u64_in}
use Rattle.process_memory.specs.Memory.{Fault, Found, Memory, ◌>>=◌, record_at, word_at}
use Rattle.py_fields.specs.declared.layout.DictAt.{DictAt}
use Rattle.py_fields.specs.declared.layout.Layout.{Layout}
use Rattle.py_builtins.specs.declared.dicts.Slot.{Slot}
use Rattle.py_builtins.specs.declared.dicts.Slot.TheVariants.{Empty, Entry}
use Rattle.py_builtins.specs.declared.keys.Slots.{Slots}
use Rattle.py_builtins.specs.Dicts.{dict_slots, slot_at}
use Rattle.py_reprs.specs.declared.error.ReprError.{ReprError}
use Rattle.py_reprs.specs.declared.error.ReprError.TheVariants.{OutOfMemory}
use Rattle.py_reprs.specs.declared.limits.Limits.{Limits}
use Rattle.py_reprs.specs.declared.places.Place.{Place}
use Rattle.py_reprs.specs.declared.places.Place.TheVariants.{At}
use Rattle.py_reprs.specs.declared.repr.ItemsForm.{ItemsForm}
use Rattle.py_reprs.specs.declared.slots.EntryPlace.{EntryPlace}
use Rattle.py_reprs.specs.LevelForms.{Level, Row, Entries}
use Rattle.py_reprs.specs.Limits.{share, shown_count, shown_entries}
use Rattle.py_reprs.specs.Places.{gap_of}
use Rattle.py_reprs.specs.Texts.{head_of}

-- a list of one, or of none
abbrev pub one_of : {T : Type 0} → Option T → List T
one_of None = []
one_of (Some x) = x ∷ []

-- what so many slots have that are not empty, in order
unfoldable pub held : {T : Type 0} → (ℕ → Option T) → ℕ → List T
held slot zero = []
held slot (suc n) = held slot n ++ one_of (slot n)

-- the first of what so many slots have
abbrev pub first_held : {T : Type 0} → (ℕ → Option T) → (most looked : ℕ) → List T
first_held slot most looked = take most (held slot looked)

-- what a further slot adds to the first of them
abbrev pub with_slot : {T : Type 0} → ℕ → List T → Option T → List T
with_slot most found slot = if nat_lt (length found) most then found ++ one_of slot else found

-- an entry of a dict: where its key and its value stand
abbrev pub entry : (key value : Place) → EntryPlace
entry key value = record { key = key; value = value }

-- an entry of a dict; none where the value's address is 0
abbrev pub entry_of : (key value : ℕ) → Option EntryPlace
entry_of key value = if value == 0 then None else Some (entry (At key) (At value))

-- the entry of a slot that was read; a gap where it can't be read
abbrev pub entry_by : Found Slot → Option EntryPlace
entry_by (Ok Empty) = None
entry_by (Ok (Entry key value)) = entry_of key value
entry_by (Err f) = Some (entry (gap_of f) (gap_of f))

-- the entry in the slot of a number
unfoldable pub entry_at : Memory → Slots → ℕ → Option EntryPlace
entry_at m slots number = entry_by (slot_at m slots number)

-- how many of so many slots are looked at
abbrev pub looked_at : Limits → ℕ → ℕ
looked_at b count = min count (4 * b.items)

-- the first entries of a dict, and how many are left out
abbrev pub entries_in : (nodes used shown : ℕ) → List EntryPlace → Level
entries_in nodes used shown found =
    Entries (map (λ e. e.key) found) (map (λ e. e.value) found) (share nodes (2 * shown)) (used - length found)

-- the first entries of a dict that states how many it has
unfoldable pub entries_level_at : Limits → Memory → (nodes used : ℕ) → Slots → Level
entries_level_at b m nodes used slots =
    entries_in nodes used (shown_entries b.items nodes used)
    (first_held (entry_at m slots) (shown_entries b.items nodes used) (looked_at b slots.count))

-- where the values of a dict stand apart from its keys, which other dicts share then; 0 where they stand beside them
abbrev pub values_by : Option DictAt → Memory → ℕ → Found ℕ
values_by None m a = Ok 0
values_by (Some d) m a = do
  values ← word_at m (a + d.values)
  Ok values

-- where the values of a dict with shared keys stand (`ma_values` of `PyDictObject`)
unfoldable pub values_place : Layout → Memory → ℕ → Found ℕ
values_place l m a = values_by l.dict m a

-- nothing within is shown where they stand apart: from 3.11 on these have another order than the dict has, and in 3.13 their
-- place is another one
abbrev pub nodes_within : (nodes values : ℕ) → ℕ
nodes_within nodes values = if values == 0 then nodes else 0

-- the dict at an address
unfoldable pub dict_level_at : Layout → Limits → Memory → (nodes addr : ℕ) → Found Level
dict_level_at l b m nodes a = do
  used ← word_at m (a + head_of l)
  values ← values_place l m a
  slots ← dict_slots l m a
  Ok (entries_level_at b m (nodes_within nodes values) used slots)

-- a member of a set; none of a slot that is empty or was deleted (a hash of -1, Objects/setobject.c)
abbrev pub member_of : (key hash : ℕ) → Option Place
member_of key hash = if key == 0 then None else if hash == 2 ^ 64 - 1 then None else Some (At key)

-- the member of a slot that was read; a gap where it can't be read
abbrev pub member_by : Found (List ℕ) → Option Place
member_by (Ok slot) = member_of (u64_in slot 0) (u64_in slot 8)
member_by (Err f) = Some (gap_of f)

-- the member in the slot of a number
unfoldable pub member_at : Memory → (table number : ℕ) → Option Place
member_at m table number = member_by (record_at m (table + 16 * number) 16)

-- the first members of a set, and how many are left out
abbrev pub members_in : ItemsForm → (nodes used shown : ℕ) → List Place → Level
members_in form nodes used shown found = Row form found (share nodes shown) (used - length found)

-- the first members of a set that states how many it has
unfoldable pub members_level_at : Limits → Memory → ItemsForm → (nodes used mask table : ℕ) → Level
members_level_at b m form nodes used mask table =
    members_in form nodes used (shown_count b.items nodes used)
    (first_held (member_at m table) (shown_count b.items nodes used) (looked_at b (mask + 1)))

-- the set at an address: behind its first field it has how many members there are, its mask, and its table's address
unfoldable pub set_level_at : Layout → Limits → Memory → ItemsForm → (nodes addr : ℕ) → Found Level
set_level_at l b m form nodes a = do
  fields ← record_at m (a + head_of l) 32
  Ok (members_level_at b m form nodes (u64_in fields 8) (u64_in fields 16) (u64_in fields 24))

-- ---- as it is read

-- a gap is told for a fault; an error is out of memory
abbrev pub LostBy : Option Fault → Result (Option EntryPlace) ReprError → Type 0
LostBy None result = result ≡ Err OutOfMemory
LostBy (Some f) result = result ≡ Ok (Some (entry (gap_of f) (gap_of f)))
