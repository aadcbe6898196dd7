-- The dict that an object's type says the object has. The rules are CPython's of its objects.
use Rattle.std.specs.Prelude.{ℕ, ◌+◌, ◌-◌, ◌^◌, nat_lt, if◌then◌else◌}
use Rattle.process_memory.specs.Memory.{Memory, Found, ◌>>=◌, word_at, address_before}
use Rattle.py_fields.specs.declared.layout.Layout.{Layout}
use Rattle.py_builtins.specs.declared.keys.Slots.{Slots}
use Rattle.py_builtins.specs.declared.types.ObjectType.{ObjectType}
use Rattle.py_builtins.specs.Dicts.{dict_slots, managed_slots}
use Rattle.py_builtins.specs.Texts.{bit_is_set}

-- so far behind an address; a negative distance is a number from 2^63 on
unfoldable pub beside : ℕ → ℕ → ℕ
beside a distance = if nat_lt distance (2 ^ 63) then a + distance else address_before a (2 ^ 64 - distance)

-- the slots of the dict that the word names which stands where the object's type says
unfoldable pub plain_slots : Layout → Memory → ℕ → ObjectType → Found Slots
plain_slots l m a t = do
  dict ← word_at m (beside a t.dict_offset)
  dict_slots l m dict

-- the slots of an object's dict: its managed one, where the flags of its type say so
unfoldable pub typed_slots : Layout → Memory → ℕ → ObjectType → Found Slots
typed_slots l m a t = if bit_is_set t.flags 4 then managed_slots l m a t.at t.flags else plain_slots l m a t
