-- The types of objects. That an object names its type, and a type its name, its flags and the place of its objects'
-- dict, is CPython's rule (`PyObject`, `PyTypeObject`).
use Rattle.std.specs.Prelude.{ℕ, List, Ok}
use Rattle.elf64_core.specs.Fields.{u64_in}
use Rattle.process_memory.specs.Memory.{Memory, Found, ◌>>=◌, record_at}
use Rattle.py_fields.specs.declared.layout.Layout.{Layout}
use Rattle.py_builtins.specs.declared.types.ObjectType.{ObjectType}

-- a type, by its address and its record
abbrev pub type_by : Layout → ℕ → List ℕ → ObjectType
type_by l at klass = record {
  at = at;
  flags = u64_in klass l.klass.flags;
  name = u64_in klass l.klass.name;
  dict_offset = u64_in klass l.klass.dict_offset;
}

-- the type of the object at an address
unfoldable pub type_at : Layout → Memory → ℕ → Found ObjectType
type_at l m a = do
  object ← record_at m a l.object.size
  klass ← record_at m (u64_in object l.object.klass) l.klass.size
  Ok (type_by l (u64_in object l.object.klass) klass)
