-- The attributes of an instance, as CPython has them in its dict or beside it. A dict states how many it has; where there
-- are values without a dict, each slot that isn't looked at is counted. That four slots are looked at for each item that
-- may be shown, and that an instance without attributes, or of which they can't be read, is shown by its class and its
-- address alone, is this project's rule.
use Rattle.std.specs.Prelude.{◌≡◌, ℕ, ◌+◌, ◌-◌, ◌*◌, ◌^◌, ◌==◌, min, if◌then◌else◌, Option, Some, None}
use Rattle.std.specs.Prelude.{List, length, map, take, Result, Ok, Err}
use Rattle.process_memory.specs.Memory.{Fault, Found, Memory, ◌>>=◌, word_at}
use Rattle.py_fields.specs.declared.layout.Layout.{Layout}
use Rattle.py_builtins.specs.declared.error.ObjectError.{ObjectError}
use Rattle.py_builtins.specs.ObjectError.{object_fault}
use Rattle.instance_dicts.specs.declared.attributes.Attribute.{Attribute}
use Rattle.instance_dicts.specs.declared.forms.InstanceDict.{InstanceDict}
use Rattle.instance_dicts.specs.declared.forms.InstanceDict.TheVariants.{None as NoDict, Dict, Values}
use Rattle.instance_dicts.specs.Attributes.{dict_attributes_at}
use Rattle.instance_dicts.specs.Instances.{instance_dict_at}
use Rattle.py_reprs.specs.declared.attributes.InstanceAttributes.{InstanceAttributes}
use Rattle.py_reprs.specs.declared.attributes.InstanceRule.{InstanceRule}
use Rattle.py_reprs.specs.declared.error.ReprError.{ReprError}
use Rattle.py_reprs.specs.declared.error.ReprError.TheVariants.{OutOfMemory}
use Rattle.py_reprs.specs.declared.limits.Limits.{Limits}
use Rattle.py_reprs.specs.declared.places.Place.{Place}
use Rattle.py_reprs.specs.declared.places.Place.TheVariants.{At}
use Rattle.py_reprs.specs.LevelForms.{Level, Whole, Attributes}
use Rattle.py_reprs.specs.Limits.{share, shown_entries}
use Rattle.py_reprs.specs.Texts.{head_of}
use Rattle.py_reprs.specs.Trees.Tree.{Opaque}

-- attributes, and how many there are in all
pub record Held : Type 0 where
  pub list : List Attribute
  pub count : ℕ

-- attributes that are held, and how many there are in all
abbrev pub held : List Attribute → ℕ → Held
held list count = record { list = list; count = count }

-- how many attributes a dict states that it has
unfoldable pub stated_at : Layout → Memory → InstanceDict → Found (Option ℕ)
stated_at l m NoDict = Ok None
stated_at l m (Dict a) = do
  used ← word_at m (a + head_of l)
  Ok (Some used)
stated_at l m (Values keys values) = Ok None

-- how many attributes there are: the number in use where it is told, else the found ones and the slots left
abbrev pub count_of : Option ℕ → (found left : ℕ) → ℕ
count_of (Some used) found left = used
count_of None found left = min (found + left) (2 ^ 64 - 1)

-- the attributes of so many slots of the instance at an address
unfoldable pub attributes_at : Layout → InstanceRule → Memory → (limit addr : ℕ) → Found Held
attributes_at l r m limit a = do
  dict ← instance_dict_at l r.fields m r.form a
  stated ← stated_at l m dict
  told ← dict_attributes_at l m r.form dict limit
  Ok (held told.list (count_of stated (length told.list) told.left))

-- the attributes, where they can be read
abbrev pub found_or_none : Found Held → Option Held
found_or_none (Ok h) = Some h
found_or_none (Err f) = None

-- where an attribute's name stands
abbrev pub name_place : Attribute → Place
name_place a = At a.name

-- where an attribute's value stands
abbrev pub value_place : Attribute → Place
value_place a = At a.value

-- an instance with its first attributes, and how many are left out
abbrev pub attributes_in : Option (List ℕ) → (addr nodes count shown : ℕ) → List Attribute → Level
attributes_in class a nodes count shown first =
    Attributes class a (map name_place first) (map value_place first) (share nodes (2 * shown)) (count - shown)

-- an instance with its first attributes, as many as are shown
abbrev pub attributes_by : Limits → Option (List ℕ) → (addr nodes : ℕ) → Held → (shown : ℕ) → Level
attributes_by b class a nodes h shown = attributes_in class a nodes h.count shown (take shown h.list)

-- an instance of a class by its attributes; each is two values
abbrev pub attributes_level : Limits → Option (List ℕ) → (addr nodes : ℕ) → Held → Level
attributes_level b class a nodes h = if length h.list == 0 then Whole (Opaque class a)
    else attributes_by b class a nodes h (shown_entries b.items nodes (length h.list))

-- an instance with its attributes; its class and address alone where they can't be read
abbrev pub instance_by : Limits → Option (List ℕ) → (addr nodes : ℕ) → Option Held → Level
instance_by b class a nodes None = Whole (Opaque class a)
instance_by b class a nodes (Some h) = attributes_level b class a nodes h

-- ---- as it is read

-- the attributes that were read
abbrev pub held_of : InstanceAttributes → Held
held_of a = held a.list.items a.count

-- a result with the attributes that were read
abbrev pub held_found : {E : Type 0} → Result InstanceAttributes E → Result Held E
held_found (Ok a) = Ok (held_of a)
held_found (Err e) = Err e

-- the attributes that were read, where there are some
abbrev pub held_if : Option InstanceAttributes → Option Held
held_if None = None
held_if (Some a) = Some (held_of a)

-- no attributes are told for a fault; an error is out of memory
abbrev pub IsLost : Option Fault → Result (Option InstanceAttributes) ReprError → Type 0
IsLost None result = result ≡ Err OutOfMemory
IsLost (Some f) result = result ≡ Ok None

-- what was read, or nothing where that can't be; out of memory is handed on
abbrev pub FoundIs : Result InstanceAttributes ObjectError → Result (Option InstanceAttributes) ReprError → Type 0
FoundIs (Ok a) result = result ≡ Ok (Some a)
FoundIs (Err e) result = IsLost (object_fault e) result
