-- The name that a thread has in its own dict. That it stands there under `_name` is CPython's (`Lib/threading.py`);
-- that so many slots of it are looked at is this project's rule.
use Rattle.std.specs.Prelude.{ℕ, zero, suc, Option, Some, None, List, [], ◌∷◌, take, codes, bytes_eq, encode_utf8_all}
use Rattle.std.specs.Prelude.{Ok, Err, if◌then◌else◌}
use Rattle.process_memory.specs.Memory.{Memory, Found, ◌>>=◌}
use Rattle.process_memory.specs.Memory.Fault.{Entries}
use Rattle.py_fields.specs.declared.layout.Layout.{Layout}
use Rattle.py_builtins.specs.Texts.{text_at}
use Rattle.py_builtins.specs.Types.{type_at}
use Rattle.py_names.specs.Search.{find_from}
use Rattle.py_names.specs.Typed.{typed_slots}
use Rattle.instance_dicts.specs.declared.attributes.Attribute.{Attribute}
use Rattle.instance_dicts.specs.Attributes.{dict_attributes_at}
use Rattle.instance_dicts.specs.Instances.{instance_dict_at}
use Rattle.thread_names.specs.declared.own.DictRule.{DictRule}

-- the object under `_name` in the dict that the object's type says it has
unfoldable pub named_by_type : Layout → Memory → ℕ → Found (Option ℕ)
named_by_type l m thread = do
  t ← type_at l m thread
  slots ← typed_slots l m thread t
  search ← find_from l m (codes "_name") slots slots.count 0 256
  Ok search.found

-- the value of an attribute, if it has a name
unfoldable pub value_if : Layout → Memory → List ℕ → Attribute → Found (Option ℕ)
value_if l m name a = do
  text ← text_at l m a.name
  Ok (if bytes_eq (encode_utf8_all text) name then Some a.value else None)

-- a value that was found, else what is found next
abbrev pub or_next : Option ℕ → Found (Option ℕ) → Found (Option ℕ)
or_next None rest = rest
or_next (Some value) rest = Ok (Some value)

-- the value of the first attribute that has a name
unfoldable pub first_named : Layout → Memory → List ℕ → List Attribute → Found (Option ℕ)
first_named l m name [] = Ok None
first_named l m name (a ∷ rest) = value_if l m name a >>= (λ value. or_next value (first_named l m name rest))

-- where none was found, and slots are left that were not looked at, it isn't known whether there is one
abbrev pub found_or_more : Option ℕ → ℕ → Found (Option ℕ)
found_or_more (Some value) left = Ok (Some value)
found_or_more None zero = Ok None
found_or_more None (suc left) = Err Entries

-- the object under `_name` in the dict that the rule of the version says the object has
unfoldable pub named_by_rule : Layout → DictRule → Memory → ℕ → Found (Option ℕ)
named_by_rule l r m thread = do
  dict ← instance_dict_at l r.fields m r.form thread
  told ← dict_attributes_at l m r.form dict 256
  found ← first_named l m (codes "_name") (take 256 told.list)
  found_or_more found told.left

-- the same, by the rule where there is one
unfoldable pub name_object : Layout → Option DictRule → Memory → ℕ → Found (Option ℕ)
name_object l None m thread = named_by_type l m thread
name_object l (Some rule) m thread = named_by_rule l rule m thread

-- the characters of a text at an address, where there is one
unfoldable pub text_if : Layout → Memory → Option ℕ → Found (Option (List ℕ))
text_if l m None = Ok None
text_if l m (Some a) = do
  text ← text_at l m a
  Ok (Some text)

-- the name of the thread at an address, where it has one
unfoldable pub name_at : Layout → Option DictRule → Memory → ℕ → Found (Option (List ℕ))
name_at l rule m thread = name_object l rule m thread >>= text_if l m
