-- Managed dicts: what stands before an instance, or in it, says where its values or its dict are. The places are those
-- of
-- CPython's `_PyObject_DictOrValuesPointer` of 3.11 and 3.12, and of `_PyObject_ManagedDictPointer` and
-- `_PyObject_InlineValues` of 3.13.
use Rattle.std.specs.Prelude.{ℕ, zero, suc, ◌+◌, ◌/◌, ◌%◌, ◌^◌, Ok, if◌then◌else◌}
use Rattle.process_memory.specs.Memory.{Memory, Found, ◌>>=◌, word_at, address_before}
use Rattle.py_builtins.specs.Dicts.{is_odd}
use Rattle.py_builtins.specs.Texts.{bit_is_set}
use Rattle.instance_dicts.specs.declared.forms.DictForm.{DictForm}
use Rattle.instance_dicts.specs.declared.forms.DictForm.TheVariants.{Pointer, ValuesAndDict, OneWord, Embedded}
use Rattle.instance_dicts.specs.declared.forms.InstanceDict.{InstanceDict}
use Rattle.instance_dicts.specs.declared.forms.InstanceDict.TheVariants.{None, Dict}
use Rattle.instance_dicts.specs.declared.forms.InstanceFields.{InstanceFields}
use Rattle.instance_dicts.specs.Forms.{dict_or_none, values_with}

-- 3.11: the values come before a dict
unfoldable pub held_apart : InstanceFields → Memory → ℕ → ℕ → ℕ → Found InstanceDict
held_apart f m class zero dict = Ok (dict_or_none dict)
held_apart f m class (suc values) dict = values_with f m class (suc values)

-- the attributes of an object of 3.11, by the two words before it
unfoldable pub values_and_dict_at : InstanceFields → Memory → ℕ → ℕ → Found InstanceDict
values_and_dict_at f m a class = do
  values ← word_at m (address_before a 32)
  dict ← word_at m (address_before a 24)
  held_apart f m class values dict

-- 3.12: an odd word is one less than the address of the values
unfoldable pub one_word : InstanceFields → Memory → ℕ → ℕ → Found InstanceDict
one_word f m class word = if is_odd word then values_with f m class (word + 1) else Ok (dict_or_none word)

-- the attributes of an object of 3.12, by the tagged word before it
unfoldable pub one_word_at : InstanceFields → Memory → ℕ → ℕ → Found InstanceDict
one_word_at f m a class = word_at m (address_before a 24) >>= one_word f m class

-- 3.13: the byte of a header of values that says whether they are valid
unfoldable pub valid_byte : ℕ → ℕ
valid_byte header = header / 2 ^ 24 % 256

-- the values stand behind their header; a byte of 0 says that there are none
unfoldable pub values_if : InstanceFields → Memory → ℕ → ℕ → ℕ → Found InstanceDict
values_if f m class place zero = Ok None
values_if f m class place (suc valid) = values_with f m class (place + 8)

-- the values inside an object of 3.13, where their header says that they are valid (`_dictvalues.valid`)
unfoldable pub valid_values : InstanceFields → Memory → ℕ → ℕ → ℕ → Found InstanceDict
valid_values f m class place header = values_if f m class place (valid_byte header)

-- they stand behind the fields of the instance
unfoldable pub embedded_values_at : InstanceFields → Memory → ℕ → ℕ → Found InstanceDict
embedded_values_at f m a class = do
  size ← word_at m (class + f.basic_size)
  header ← word_at m (a + size)
  valid_values f m class (a + size) header

-- a dict comes before the values, and these are there where the flags of the class have bit 2
unfoldable pub embedded_by : InstanceFields → Memory → ℕ → ℕ → ℕ → ℕ → Found InstanceDict
embedded_by f m a class flags zero = if bit_is_set flags 2 then embedded_values_at f m a class else Ok None
embedded_by f m a class flags (suc dict) = Ok (Dict (suc dict))

-- the attributes of an object of 3.13, by the word before it or inside it
unfoldable pub embedded_at : InstanceFields → Memory → ℕ → ℕ → ℕ → Found InstanceDict
embedded_at f m a class flags = word_at m (address_before a 24) >>= embedded_by f m a class flags

-- the managed dict of an instance of a class with these flags; the first form has none
unfoldable pub managed_dict_at : InstanceFields → Memory → DictForm → ℕ → ℕ → ℕ → Found InstanceDict
managed_dict_at f m Pointer a class flags = Ok None
managed_dict_at f m ValuesAndDict a class flags = values_and_dict_at f m a class
managed_dict_at f m OneWord a class flags = one_word_at f m a class
managed_dict_at f m Embedded a class flags = embedded_at f m a class flags
