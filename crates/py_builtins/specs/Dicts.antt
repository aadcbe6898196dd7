-- Dicts: where their slots are, and what each slot is. The rules are CPython's of its dict objects; which of
-- its forms a dict has is the layout's to say.
use Rattle.std.specs.Prelude.{ℕ, zero, suc, ◌+◌, ◌*◌, ◌%◌, ◌^◌, ◌<◌, nat_lt, nat_le, ◌==◌, Bool, true, false, Option}
use Rattle.std.specs.Prelude.{Some, None, List, if◌then◌else◌, Result, Ok, Err}
use Rattle.elf64_core.specs.Fields.{u64_in, u8_in}
use Rattle.process_memory.specs.Memory.{Memory, Found, ◌>>=◌, record_at, word_at, address_before}
use Rattle.process_memory.specs.Memory.Fault.{BadDict}
use Rattle.py_fields.specs.declared.layout.Dicts.{Dicts}
use Rattle.py_fields.specs.declared.layout.Dicts.TheVariants.{Absent, General, Compact}
use Rattle.py_fields.specs.declared.layout.Managed.{Managed}
use Rattle.py_fields.specs.declared.layout.Managed.TheVariants.{Absent as Unmanaged, Split, Tagged}
use Rattle.py_fields.specs.declared.layout.DictAt.{DictAt}
use Rattle.py_fields.specs.declared.layout.KeysAt.{KeysAt}
use Rattle.py_fields.specs.declared.layout.HeapAt.{HeapAt}
use Rattle.py_fields.specs.declared.layout.Layout.{Layout}
use Rattle.py_builtins.specs.declared.keys.Slots.{Slots}
use Rattle.py_builtins.specs.declared.keys.Index.{Index}
use Rattle.py_builtins.specs.declared.managed.Held.{Held}
use Rattle.py_builtins.specs.declared.dicts.Slot.{Slot}
use Rattle.py_builtins.specs.declared.dicts.Slot.TheVariants.{Empty, Entry}
use Rattle.py_builtins.specs.Texts.{bit_is_set}

-- a number of slots, by the 8 bytes that state it, unless it is negative
unfoldable pub slot_count : ℕ → Found ℕ
slot_count n = if nat_lt n (2 ^ 63) then Ok n else Err BadDict

-- how many bytes the index takes that has so many slots
unfoldable pub index_bytes : ℕ → ℕ
index_bytes n =
    if nat_le n 0xff then n else
    if nat_le n 0xffff then n * 2 else
    if nat_le n 0xffff_ffff then n * 4 else n * 8

-- the index of keys that state how many slots there are. Their entries have a hash
unfoldable pub stated_index : Option ℕ → List ℕ → Found Index
stated_index None keys = Err BadDict
stated_index (Some slots) keys = do
  n ← slot_count (u64_in keys slots)
  Ok (record { bytes = index_bytes n; has_hash = true })

-- the index of so many bytes, as a power of 2. The entries of kind 0 have a hash
unfoldable pub index_of_log2 : ℕ → ℕ → Found Index
index_of_log2 log2 kind =
    if nat_lt log2 64 then Ok (record { bytes = 2 ^ log2; has_hash = kind == 0 }) else Err BadDict

-- the index of keys that state its size, and the kind of their entries
unfoldable pub sized_index : Option ℕ → Option ℕ → List ℕ → Found Index
sized_index (Some log2) (Some kind) keys = index_of_log2 (u8_in keys log2) (u8_in keys kind)
sized_index _ _ keys = Err BadDict

-- what stands between the record of keys and their entries, and whether those have a hash
abbrev pub index_in : Dicts → KeysAt → List ℕ → Found Index
index_in Absent k keys = Err BadDict
index_in General k keys = stated_index k.slots keys
index_in Compact k keys = sized_index k.log2 k.kind keys

-- the slots of the keys at an address, by their record, where their values stand apart, if `values` isn't 0
unfoldable pub slots_in : Dicts → KeysAt → ℕ → ℕ → List ℕ → Found Slots
slots_in dicts k at values keys = do
  count ← slot_count (u64_in keys k.used)
  index ← index_in dicts k keys
  Ok (record { count = count; entries = at + k.size + index.bytes; has_hash = index.has_hash; values = values })

-- the slots of keys at an address, where the layout has keys
abbrev pub keys_by : Dicts → Memory → ℕ → ℕ → Option KeysAt → Found Slots
keys_by dicts m at values None = Err BadDict
keys_by dicts m at values (Some k) = do
  keys ← record_at m at k.size
  slots_in dicts k at values keys

-- the slots of the keys at an address
unfoldable pub keys_slots : Layout → Memory → ℕ → ℕ → Found Slots
keys_slots l m at values = keys_by l.dicts m at values l.keys

-- the slots of a dict, where the layout has dicts
abbrev pub dict_by : Layout → Memory → ℕ → Option DictAt → Found Slots
dict_by l m a None = Err BadDict
dict_by l m a (Some d) = do
  dict ← record_at m a d.size
  keys_slots l m (u64_in dict d.keys) (u64_in dict d.values)

-- the slots of the dict at an address: how many there are, and where
unfoldable pub dict_slots : Layout → Memory → ℕ → Found Slots
dict_slots l m a = dict_by l m a l.dict

-- whether a number is odd
abbrev pub is_odd : ℕ → Bool
is_odd n = n % 2 == 1

-- what the two words before an object say: where its values are, and its dict; 0 where there are none
abbrev pub held_by : Managed → ℕ → ℕ → Held
held_by Unmanaged values dict = record { values = 0; dict = 0 }
held_by Split values dict = record { values = values; dict = dict }
held_by Tagged values dict =
    if is_odd dict then record { values = dict + 1; dict = 0 } else record { values = 0; dict = dict }

-- where the values of an object are: with the object itself, where the flags of its type say so
abbrev pub values_of : HeapAt → ℕ → ℕ → ℕ → ℕ
values_of h a flags values = if bit_is_set flags 2 then a + h.inline else values

-- the slots of the keys that the objects of a type share
unfoldable pub shared_slots : Layout → Memory → HeapAt → ℕ → ℕ → Found Slots
shared_slots l m h t values = do
  heap ← record_at m t h.size
  keys_slots l m (u64_in heap h.cached_keys) values

-- the slots of the dict that an object names; none where it names none
abbrev pub own_slots : Layout → Memory → ℕ → Found Slots
own_slots l m zero = Err BadDict
own_slots l m (suc dict) = dict_slots l m (suc dict)

-- the slots of what an object at `a` of the type at `t` holds: its values, else its dict
unfoldable pub held_slots : Layout → Memory → HeapAt → ℕ → ℕ → ℕ → ℕ → ℕ → Found Slots
held_slots l m h a t flags zero dict = own_slots l m dict
held_slots l m h a t flags (suc values) dict = shared_slots l m h t (values_of h a flags (suc values))

-- the slots of the attributes that stand before an object or in it, where the layout has heap types
abbrev pub managed_by : Layout → Memory → ℕ → ℕ → ℕ → Option HeapAt → Found Slots
managed_by l m a t flags None = Err BadDict
managed_by l m a t flags (Some h) = do
  values ← word_at m (address_before a 32)
  dict ← word_at m (address_before a 24)
  held_slots l m h a t flags (held_by l.managed values dict).values (held_by l.managed values dict).dict

-- the slots of the managed dict of the object at `a`, whose type at `t` has these flags
unfoldable pub managed_slots : Layout → Memory → ℕ → ℕ → ℕ → Found Slots
managed_slots l m a t flags = managed_by l m a t flags l.heap

-- how many bytes an entry has: a hash of 8 where there is one, a key and a value
abbrev pub entry_width : Bool → ℕ
entry_width true = 24
entry_width false = 16

-- where its key is
abbrev pub key_at : Bool → ℕ
key_at true = 8
key_at false = 0

-- the value of the slot of a number: the one beside its key, unless values stand apart
unfoldable pub value_by : Memory → ℕ → ℕ → ℕ → Found ℕ
value_by m zero number value = Ok value
value_by m (suc values) number value = word_at m (suc values + 8 * number)

-- a slot whose key is 0 is empty
unfoldable pub slot_by : Memory → ℕ → ℕ → ℕ → ℕ → Found Slot
slot_by m values number zero value = Ok Empty
slot_by m values number (suc key) value = do
  held ← value_by m values number value
  Ok (Entry (suc key) held)

-- the slot of a number, from 0 on
unfoldable pub slot_at : Memory → Slots → ℕ → Found Slot
slot_at m s number = do
  entry ← record_at m (s.entries + entry_width s.has_hash * number) (entry_width s.has_hash)
  slot_by m s.values number (u64_in entry (key_at s.has_hash)) (u64_in entry (key_at s.has_hash + 8))

-- the slots begin not far past the last address
pub record AreNear (s : Slots) : Type 0 where
  pub few : s.count < 2 ^ 63
  pub entries : s.entries < 2 ^ 68
  pub values : s.values < 2 ^ 68

-- a cursor: the slots of a dict, and how many of them it has passed
pub record Cursor : Type 0 where
  pub slots : Slots
  pub passed : ℕ

-- a result with the slots that its cursor goes through
abbrev pub slots_of : {E : Type 0} → Result Cursor E → Result Slots E
slots_of (Ok c) = Ok c.slots
slots_of (Err e) = Err e
