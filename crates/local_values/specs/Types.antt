-- The names of the types of values. That an object names its type is CPython's rule (`ob_type`); that the name is told
-- as a class is told among values is this project's.
use Rattle.std.specs.Prelude.{ℕ, ◌+◌, List, nat_eq, if◌then◌else◌, Option, Some, None, Ok, Err}
use Rattle.std.specs.BTreeMap.{BTreeMap, get}
use Rattle.std.specs.List.{list_any}
use Rattle.std.specs.Ordering.{nat_cmp}
use Rattle.process_memory.specs.Memory.{Found, Memory, word_at}
use Rattle.py_fields.specs.declared.layout.Layout.{Layout}
use Rattle.py_reprs.specs.declared.kinds.ReprTypes.{ReprTypes}
use Rattle.py_reprs.specs.declared.limits.Limits.{Limits}
use Rattle.py_reprs.specs.Trees.{Tree}
use Rattle.py_reprs.specs.Trees.Tree.{Class}
use Rattle.py_reprs.specs.Values.{repr_at}

-- nothing within a class is shown
abbrev pub nothing_within : Limits
nothing_within = record { characters = 0; items = 0; levels = 0; nodes = 0 }

-- the name of a value that is a class
abbrev pub class_name : Tree → Option (List ℕ)
class_name (Class name addr) = name
class_name _ = None

-- the name of the class at an address, if it is one
unfoldable pub class_name_at : Layout → ReprTypes → Memory → ℕ → Option (List ℕ)
class_name_at l t m class = class_name (repr_at l t nothing_within m 0 0 class)

-- that of the class that an object names, if its record can be read
abbrev pub class_name_if : Layout → ReprTypes → Memory → Found ℕ → Option (List ℕ)
class_name_if l t m (Ok class) = class_name_at l t m class
class_name_if l t m (Err fault) = None

-- the name of the type of the object at an address
unfoldable pub type_name_at : Layout → ReprTypes → Memory → ℕ → Option (List ℕ)
type_name_at l t m a = class_name_if l t m (word_at m (a + l.object.klass))

-- how many reads one takes at most
abbrev pub type_cost : ℕ
type_cost = 17

-- the name for an address, if that is among these
abbrev pub name_among : (ℕ → Option (List ℕ)) → List ℕ → ℕ → Option (List ℕ)
name_among name addresses a = if list_any (nat_eq a) addresses then name a else None

-- a name that a map has, where that is known
abbrev pub known_name : Option (Option (List ℕ)) → Option (List ℕ)
known_name None = None
known_name (Some name) = name

-- the name that a map has for an address
abbrev pub name_in : BTreeMap ℕ (Option (List ℕ)) → ℕ → Option (List ℕ)
name_in names a = known_name (get nat_cmp names a)
