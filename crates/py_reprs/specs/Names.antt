-- What is shown by a name: a class has it in its record, an object of another type in that of its class (`tp_name`). That 128
-- bytes of it are looked at is this project's rule: where one of them isn't in memory the name isn't known.
use Rattle.std.specs.Prelude.{ℕ, if◌then◌else◌, Option, Some, None, List, Ok, Err}
use Rattle.std.specs.Str.{is_utf8, chars}
use Rattle.elf64_core.specs.Fields.{u64_in}
use Rattle.elf64_core.specs.Nul.{until_nul}
use Rattle.process_memory.specs.Memory.{Found, Memory, ◌>>=◌, record_at}
use Rattle.py_fields.specs.declared.layout.Layout.{Layout}
use Rattle.py_reprs.specs.Trees.{Tree}
use Rattle.py_reprs.specs.Trees.Tree.{Class, Opaque}

-- the characters of bytes, where they are UTF-8
abbrev pub text_if : Option (List ℕ) → Option (List ℕ)
text_if None = None
text_if (Some bytes) = if is_utf8 bytes then Some (chars bytes) else None

-- the bytes before the first nul, where they are a text
abbrev pub name_in : List ℕ → Option (List ℕ)
name_in bytes = text_if (until_nul bytes)

-- the name that bytes are, where they can be read
abbrev pub name_by : Found (List ℕ) → Option (List ℕ)
name_by (Ok bytes) = name_in bytes
name_by (Err f) = None

-- C's name at an address, where it is a text
unfoldable pub name_at : Memory → ℕ → Option (List ℕ)
name_at m a = name_by (record_at m a 128)

-- an object of another type, by the address of its type's name
unfoldable pub opaque_at : Memory → (name addr : ℕ) → Found Tree
opaque_at m name a = Ok (Opaque (name_at m name) a)

-- the class at an address
unfoldable pub class_at : Layout → Memory → ℕ → Found Tree
class_at l m a = do
  class ← record_at m a l.klass.size
  Ok (Class (name_at m (u64_in class l.klass.name)) a)
