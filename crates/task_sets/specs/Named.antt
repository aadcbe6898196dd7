-- The attribute that an instance's own dict has under a name. That so many slots of it are looked at is this project's
-- rule.
use Rattle.std.specs.Prelude.{ℕ, Option, Some, None, List, [], ◌∷◌, length, get_or, bytes_eq, encode_utf8_all, Ok}
use Rattle.std.specs.Prelude.{if◌then◌else◌}
use Rattle.process_memory.specs.Memory.{Memory, Found, ◌>>=◌}
use Rattle.py_fields.specs.declared.layout.Layout.{Layout}
use Rattle.py_builtins.specs.Texts.{text_at}
use Rattle.instance_dicts.specs.declared.attributes.Attribute.{Attribute}
use Rattle.instance_dicts.specs.Attributes.{dict_attributes_at}
use Rattle.instance_dicts.specs.Instances.{instance_dict_at}
use Rattle.task_sets.specs.declared.places.RootPlaces.{RootPlaces}
use Rattle.task_sets.specs.Gathered.{gathered}

-- an attribute without name and value
abbrev pub no_attribute : Attribute
no_attribute = record { name = 0; value = 0 }

-- the value of an attribute, if it has a name
unfoldable pub value_if_named : Layout → Memory → List ℕ → Attribute → Found (Option ℕ)
value_if_named l m name a = do
  text ← text_at l m a.name
  Ok (if bytes_eq (encode_utf8_all text) name then Some a.value else None)

-- the value of the attribute of this number, where it has this name
abbrev pub named_by : Layout → Memory → List ℕ → List Attribute → ℕ → Found (Option ℕ)
named_by l m name attributes number = value_if_named l m name (get_or attributes number no_attribute)

-- the first of some addresses
abbrev pub first_of : List ℕ → Option ℕ
first_of [] = None
first_of (x ∷ xs) = Some x

-- the value of the attribute of the instance at an address under a name
unfoldable pub attribute_at : Layout → RootPlaces → Memory → List ℕ → ℕ → Found (Option ℕ)
attribute_at l p m name a = do
  dict ← instance_dict_at l p.instance m p.form a
  told ← dict_attributes_at l m p.form dict 4096
  values ← gathered (named_by l m name told.list) (length told.list) 0
  Ok (first_of values)
