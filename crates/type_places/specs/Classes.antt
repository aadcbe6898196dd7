-- The classes of objects, and which objects are types. That an object names its class, and a class its flags, its base
-- and
-- how many bytes its instances have, is CPython's rule (`PyObject`, `PyTypeObject`); so is which flag says that the
-- objects
-- of a class are types (`PyType_Check`).
use Rattle.std.specs.Prelude.{ℕ, ◌+◌, ◌==◌, Bool, true, false, List, [], ◌∷◌, Ok, if◌then◌else◌}
use Rattle.process_memory.specs.Memory.{Memory, Found, ◌>>=◌, word_at}
use Rattle.py_fields.specs.declared.layout.Layout.{Layout}
use Rattle.py_builtins.specs.Texts.{bit_is_set}
use Rattle.type_places.specs.declared.classes.TypeFields.{TypeFields}

-- the address of the class of the object at an address
unfoldable pub class_address_at : Layout → Memory → ℕ → Found ℕ
class_address_at l m a = word_at m (a + l.object.klass)

-- that of the object that a field of the record at an address names
unfoldable pub named_class_at : Layout → Memory → ℕ → ℕ → Found ℕ
named_class_at l m a field = word_at m (a + field) >>= class_address_at l m

-- whether the class of each object is this one
unfoldable pub have_class : Layout → Memory → ℕ → List ℕ → Found Bool
have_class l m class [] = Ok true
have_class l m class (x ∷ xs) = do
  its ← class_address_at l m x
  if its == class then have_class l m class xs else Ok false

-- whether the object at an address is a type: the flags of its class have bit 31, as those of `type` have and of what
-- derives from it
unfoldable pub is_type_at : Layout → Memory → ℕ → Found Bool
is_type_at l m a = do
  class ← class_address_at l m a
  flags ← word_at m (class + l.klass.flags)
  Ok (bit_is_set flags 31)

-- whether a type states this size, where it is still in question (`tp_basicsize`)
unfoldable pub has_size_if : TypeFields → Memory → ℕ → ℕ → Bool → Found Bool
has_size_if f m size a false = Ok false
has_size_if f m size a true = do
  stated ← word_at m (a + f.basic_size)
  Ok (stated == size)

-- whether it is a type whose instances have so many bytes
unfoldable pub is_sized_type_at : Layout → TypeFields → Memory → ℕ → ℕ → Found Bool
is_sized_type_at l f m size a = is_type_at l m a >>= has_size_if f m size a
