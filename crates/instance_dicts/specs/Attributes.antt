-- The attributes that an instance's dict has: the entries of its slots, by their order. How dicts have their slots is
-- CPython's rule; that values of 3.13 have a header is its `struct _dictvalues`.
use Rattle.std.specs.Prelude.{
  ℕ,
  zero,
  suc,
  ◌+◌,
  ◌-◌,
  nat_lt,
  if◌then◌else◌,
  Option,
  Some,
  None,
  List,
  [],
  ◌∷◌,
  ◌++◌,
  Result,
  Ok,
  Err,
}
use Rattle.process_memory.specs.Memory.{Memory, Found, ◌>>=◌, word_at}
use Rattle.process_memory.specs.Memory.Fault.{BadDict}
use Rattle.py_fields.specs.declared.layout.DictAt.{DictAt}
use Rattle.py_fields.specs.declared.layout.Layout.{Layout}
use Rattle.py_builtins.specs.declared.keys.Slots.{Slots}
use Rattle.py_builtins.specs.declared.dicts.Slot.{Slot}
use Rattle.py_builtins.specs.declared.dicts.Slot.TheVariants.{Empty, Entry}
use Rattle.py_builtins.specs.Dicts.{dict_slots, keys_slots, slot_at}
use Rattle.instance_dicts.specs.declared.attributes.Attribute.{Attribute}
use Rattle.instance_dicts.specs.declared.attributes.Attributes.{Attributes}
use Rattle.instance_dicts.specs.declared.forms.DictForm.{DictForm}
use Rattle.instance_dicts.specs.declared.forms.DictForm.TheVariants.{Pointer, ValuesAndDict, OneWord, Embedded}
use Rattle.instance_dicts.specs.declared.forms.InstanceDict.{InstanceDict}
use Rattle.instance_dicts.specs.declared.forms.InstanceDict.TheVariants.{None as NoDict, Dict, Values}
use Rattle.instance_dicts.specs.Forms.{as_address}

-- attributes as a list, and how many slots were not looked at
pub record Told : Type 0 where
  pub list : List Attribute
  pub left : ℕ

-- attributes, and how many slots are left
abbrev pub told : List Attribute → ℕ → Told
told list left = record { list = list; left = left }

-- a result with the attributes
abbrev pub told_of : {E : Type 0} → Result Attributes E → Result Told E
told_of (Ok a) = Ok (told a.list.items a.left)
told_of (Err e) = Err e

-- the values of a dict behind their header; 0 says that it has none apart from its keys
unfoldable pub behind_header : ℕ → Found ℕ
behind_header zero = Ok 0
behind_header (suc values) = as_address (suc values + 8)

-- the slots of a dict whose values stand behind a header, where the layout has dicts
abbrev pub headed_by : Layout → Memory → ℕ → Option DictAt → Found Slots
headed_by l m a None = Err BadDict
headed_by l m a (Some d) = do
  keys ← word_at m (a + d.keys)
  word ← word_at m (a + d.values)
  values ← behind_header word
  keys_slots l m keys values

-- the slots of a dict whose values have a header
unfoldable pub headed_slots : Layout → Memory → ℕ → Found Slots
headed_slots l m a = headed_by l m a l.dict

-- the slots of the dict at an address
abbrev pub slots_by_form : Layout → Memory → DictForm → ℕ → Found Slots
slots_by_form l m Pointer a = dict_slots l m a
slots_by_form l m ValuesAndDict a = dict_slots l m a
slots_by_form l m OneWord a = dict_slots l m a
slots_by_form l m Embedded a = headed_slots l m a

-- an attribute, where its value's address isn't 0
abbrev pub valued : ℕ → ℕ → List Attribute
valued name zero = []
valued name (suc value) = record { name = name; value = suc value } ∷ []

-- the attribute that a slot has; a value of 0 stands for none
abbrev pub attribute_of : Slot → List Attribute
attribute_of Empty = []
attribute_of (Entry name value) = valued name value

-- those of `n` slots from a number on, in order
unfoldable pub attributes_from : Memory → Slots → ℕ → ℕ → Found (List Attribute)
attributes_from m s zero number = Ok []
attributes_from m s (suc n) number = do
  slot ← slot_at m s number
  rest ← attributes_from m s n (number + 1)
  Ok (attribute_of slot ++ rest)

-- the smaller of two numbers
unfoldable pub at_most : ℕ → ℕ → ℕ
at_most count limit = if nat_lt count limit then count else limit

-- those of so many slots at most
unfoldable pub told_by : Memory → ℕ → Slots → Found Told
told_by m limit s = do
  list ← attributes_from m s (at_most s.count limit) 0
  Ok (told list (s.count - at_most s.count limit))

-- the attributes of an instance, by where its dict or its values stand
unfoldable pub dict_attributes_at : Layout → Memory → DictForm → InstanceDict → ℕ → Found Told
dict_attributes_at l m form NoDict limit = Ok (told [] 0)
dict_attributes_at l m form (Dict a) limit = slots_by_form l m form a >>= told_by m limit
dict_attributes_at l m form (Values keys values) limit = keys_slots l m keys values >>= told_by m limit
