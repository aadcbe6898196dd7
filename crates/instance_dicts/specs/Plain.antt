-- Dicts that a word names, which stands where the class of an instance says: CPython's `_PyObject_ComputedDictPointer`.
use Rattle.std.specs.Prelude.{ℕ, zero, suc, ◌+◌, ◌-◌, ◌*◌, ◌/◌, ◌^◌, nat_lt, if◌then◌else◌, Ok}
use Rattle.process_memory.specs.Memory.{Memory, Found, ◌>>=◌, word_at, address_before}
use Rattle.instance_dicts.specs.declared.forms.InstanceDict.{InstanceDict}
use Rattle.instance_dicts.specs.declared.forms.InstanceDict.TheVariants.{None}
use Rattle.instance_dicts.specs.declared.forms.InstanceFields.{InstanceFields}
use Rattle.instance_dicts.specs.Forms.{dict_or_none}

-- the dict that the word at an address names
unfoldable pub named_dict_at : Memory → ℕ → Found InstanceDict
named_dict_at m place = do
  word ← word_at m place
  Ok (dict_or_none word)

-- a number of items, by its 8 bytes; a negative one counts as many
unfoldable pub magnitude : ℕ → ℕ
magnitude count = if nat_lt count (2 ^ 63) then count else 2 ^ 64 - count

-- the next multiple of 8
unfoldable pub rounded : ℕ → ℕ
rounded size = (size + 7) / 8 * 8

-- how many bytes an instance has of so many items
unfoldable pub end_of : ℕ → ℕ → ℕ → ℕ
end_of basic item count = rounded (basic + item * count)

-- the dict that the word so far before the end of an instance names
unfoldable pub from_end_at : InstanceFields → Memory → ℕ → ℕ → ℕ → Found InstanceDict
from_end_at f m a class back = do
  basic ← word_at m (class + f.basic_size)
  item ← word_at m (class + f.item_size)
  count ← word_at m (a + f.count)
  named_dict_at m (address_before (a + end_of basic item (magnitude count)) back)

-- the one that stands so far behind an instance; a negative distance is one from its end
unfoldable pub behind_at : InstanceFields → Memory → ℕ → ℕ → ℕ → Found InstanceDict
behind_at f m a class distance =
    if nat_lt distance (2 ^ 63) then named_dict_at m (a + distance) else from_end_at f m a class (2 ^ 64 - distance)

-- the same; a distance of 0 says that there is none
unfoldable pub plain_dict_at : InstanceFields → Memory → ℕ → ℕ → ℕ → Found InstanceDict
plain_dict_at f m a class zero = Ok None
plain_dict_at f m a class (suc distance) = behind_at f m a class (suc distance)
