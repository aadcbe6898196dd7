-- The dict of an instance: CPython's `_PyObject_GetDictPtr`, and what it looks at before.
use Rattle.std.specs.Prelude.{ℕ, Bool, false, if◌then◌else◌}
use Rattle.process_memory.specs.Memory.{Memory, Found, ◌>>=◌}
use Rattle.py_fields.specs.declared.layout.Layout.{Layout}
use Rattle.py_builtins.specs.Texts.{bit_is_set}
use Rattle.py_builtins.specs.Types.{type_at}
use Rattle.py_builtins.specs.declared.types.ObjectType.{ObjectType}
use Rattle.instance_dicts.specs.declared.forms.DictForm.{DictForm}
use Rattle.instance_dicts.specs.declared.forms.DictForm.TheVariants.{Pointer, ValuesAndDict, OneWord, Embedded}
use Rattle.instance_dicts.specs.declared.forms.InstanceDict.{InstanceDict}
use Rattle.instance_dicts.specs.declared.forms.InstanceFields.{InstanceFields}
use Rattle.instance_dicts.specs.Managed.{managed_dict_at}
use Rattle.instance_dicts.specs.Plain.{plain_dict_at}

-- a class manages the dicts of its instances by bit 4 of its flags, which means nothing in the first form
abbrev pub is_managed : DictForm → ℕ → Bool
is_managed Pointer flags = false
is_managed ValuesAndDict flags = bit_is_set flags 4
is_managed OneWord flags = bit_is_set flags 4
is_managed Embedded flags = bit_is_set flags 4

-- the dict of an instance of a class
unfoldable pub dict_of_class : InstanceFields → Memory → DictForm → ℕ → ObjectType → Found InstanceDict
dict_of_class f m form a class =
    if is_managed form class.flags
    then managed_dict_at f m form a class.at class.flags
    else plain_dict_at f m a class.at class.dict_offset

-- the dict of the instance at an address
unfoldable pub instance_dict_at : Layout → InstanceFields → Memory → DictForm → ℕ → Found InstanceDict
instance_dict_at l f m form a = type_at l m a >>= dict_of_class f m form a
