-- Objects of types that no place gives, told by all of what such an object must be. Which fields there are is CPython's
-- rule (`PyTypeObject`); that all of these must fit is this project's.
use Rattle.std.specs.Prelude.{ℕ, zero, suc, ◌+◌, ◌==◌, ◌&&◌, Bool, true, false, Option, Some, None, List, Ok, bytes_eq}
use Rattle.elf64_core.specs.Nul.{until_nul}
use Rattle.process_memory.specs.Memory.{Memory, Found, ◌>>=◌, record_at, word_at}
use Rattle.py_fields.specs.declared.layout.Layout.{Layout}
use Rattle.py_builtins.specs.Types.{type_at}
use Rattle.py_builtins.specs.declared.types.ObjectType.{ObjectType}
use Rattle.type_places.specs.declared.classes.TypeFields.{TypeFields}
use Rattle.type_places.specs.Classes.{class_address_at}

-- whether a text that was read is this one
abbrev pub is_text : List ℕ → Option (List ℕ) → Bool
is_text name None = false
is_text name (Some text) = bytes_eq text name

-- the bytes before the first nul are a name
unfoldable pub is_named : List ℕ → List ℕ → Bool
is_named chars name = is_text name (until_nul chars)

-- whether a class has so large instances, and `type` as its class: the one that is its own
unfoldable pub has_shape : Layout → TypeFields → Memory → ℕ → ℕ → Found Bool
has_shape l f m class size = do
  stated ← word_at m (class + f.basic_size)
  metatype ← class_address_at l m class
  own ← class_address_at l m metatype
  Ok (stated == size && own == metatype)

-- whether a type has a shape, where it is still in question
abbrev pub has_shape_if : Layout → TypeFields → Memory → ℕ → ℕ → Bool → Found Bool
has_shape_if l f m class size false = Ok false
has_shape_if l f m class size true = has_shape l f m class size

-- whether it has this name beside
unfoldable pub is_known_class_at : Layout → TypeFields → Memory → ObjectType → List ℕ → ℕ → Found Bool
is_known_class_at l f m class name size = do
  chars ← record_at m class.name 128
  has_shape_if l f m class.at size (is_named chars name)

-- whether a word names an object of a class; 0 names none
unfoldable pub is_object_of : Layout → Memory → ℕ → ℕ → Found Bool
is_object_of l m class zero = Ok false
is_object_of l m class (suc a) = do
  own ← class_address_at l m (suc a)
  Ok (own == class)

-- whether the word at a place of an object names one of a class
unfoldable pub holds_at : Layout → Memory → ℕ → ℕ → ℕ → Found Bool
holds_at l m object place class = word_at m (object + place) >>= is_object_of l m class

-- whether an object holds one of a class, where it is still in question
unfoldable pub holds_if : Layout → Memory → ℕ → ℕ → ℕ → Bool → Found Bool
holds_if l m object place class false = Ok false
holds_if l m object place class true = holds_at l m object place class

-- whether the object at an address has a class of this name, of so large instances and with `type` as its class, and
-- at a
-- place the word that names an object of the wanted class
unfoldable pub holder_at : Layout → TypeFields → Memory → ℕ → List ℕ → ℕ → ℕ → ℕ → Found Bool
holder_at l f m object name size place wanted = do
  class ← type_at l m object
  is ← is_known_class_at l f m class name size
  holds_if l m object place wanted is
