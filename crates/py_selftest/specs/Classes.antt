-- Types by the classes of what a frame leads to, where no symbol names them. That an object names its class, and a
-- type its name, is CPython's rule (`PyObject`, `tp_name` of `PyTypeObject`), and so are the classes of a frame up to
-- 3.10, of its code, and of what that holds (`PyFrameObject`, `PyCodeObject`); that a class is taken only by its own
-- name is this project's.
use Rattle.std.specs.Prelude.{ℕ, ◌+◌, Bool, true, false, if◌then◌else◌, List, codes, Option, Some, None, Ok}
use Rattle.process_memory.specs.Memory.{Memory, Found, ◌>>=◌, word_at}
use Rattle.py_fields.specs.declared.layout.Layout.{Layout}
use Rattle.py_selftest.specs.declared.telling.Release.{Release}
use Rattle.py_selftest.specs.declared.telling.Types.{Types}
use Rattle.py_selftest.specs.Members.{is_called_at}
use Rattle.py_selftest.specs.Telling.{is_before, kept}

-- the address of a class, where it is the one that is looked for; else none
abbrev pub class_if : ℕ → Bool → Option ℕ
class_if class is = if is then Some class else None

-- the class of an object, if its own name is this one
unfoldable pub class_named : Layout → Memory → ℕ → List ℕ → Found (Option ℕ)
class_named l m object name = do
  class ← word_at m (object + l.object.klass)
  at ← word_at m (class + l.klass.name)
  is ← is_called_at m name at
  Ok (class_if class is)

-- the same of the object that a word of a record names
unfoldable pub member_named : Layout → Memory → ℕ → ℕ → List ℕ → Found (Option ℕ)
member_named l m holder field name = do
  object ← word_at m (holder + field)
  class_named l m object name

-- a type that is known, else such a class
abbrev pub class_else : Layout → Memory → Option ℕ → ℕ → List ℕ → Found (Option ℕ)
class_else l m (Some class) object name = Ok (Some class)
class_else l m None object name = kept (class_named l m object name)

-- a type that is known, else the class of the object that a word of a record names, if it has this name
abbrev pub member_else : Layout → Memory → Option ℕ → ℕ → ℕ → List ℕ → Found (Option ℕ)
member_else l m (Some class) holder field name = Ok (Some class)
member_else l m None holder field name = kept (member_named l m holder field name)

-- the type of frames, where these are objects
abbrev pub frame_else : Layout → Memory → Option ℕ → ℕ → Bool → Found (Option ℕ)
frame_else l m known frame true = class_else l m known frame (codes "frame")
frame_else l m known frame false = Ok known

-- bytes are `str` in Python 2
abbrev pub bytes_name : Release → List ℕ
bytes_name r = if is_before r 0 then codes "str" else codes "bytes"

-- the types that are known, and those that a frame and its code lead to: by the code, its class, the frame itself, the
-- code's name, the names of its variables, and its line table
unfoldable pub types_met : Layout → Memory → Release → Types → ℕ → ℕ → Found Types
types_met l m r t frame code = do
  of_code ← class_else l m t.code code (codes "code")
  metatype ← member_else l m t.metatype code l.object.klass (codes "type")
  of_frame ← frame_else l m t.frame frame (is_before r 11)
  text ← member_else l m t.text code l.code.name (codes "str")
  tuple ← member_else l m t.tuple code l.code.varnames (codes "tuple")
  of_bytes ← member_else l m t.bytes code l.code.table (bytes_name r)
  Ok (record {
    metatype = metatype;
    code = of_code;
    frame = of_frame;
    text = text;
    tuple = tuple;
    bytes = of_bytes;
    long = t.long;
  })
