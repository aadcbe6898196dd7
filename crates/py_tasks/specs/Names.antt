-- Names of tasks, and of types. A task's name is a text, and from 3.12 on also the number of one that was given none
-- (`TaskObj.task_name`, Modules/_asynciomodule.c); which objects are texts and integers the flags of their types say
-- (`PyUnicode_Check`, `PyLong_Check`). A type's name ends at its first nul; that 128 bytes of it are looked at is this
-- project's rule.
use Rattle.std.specs.Prelude.{ℕ, ◌+◌, ◌/◌, ◌%◌, ◌^◌, nat_eq, Bool, true, false, Option, Some, None, List, Ok}
use Rattle.std.specs.Prelude.{if◌then◌else◌}
use Rattle.std.specs.Int.{w64, cast_unsigned}
use Rattle.std.specs.Str.{is_utf8, chars}
use Rattle.elf64_core.specs.Nul.{until_nul}
use Rattle.process_memory.specs.Memory.{Memory, Found, ◌>>=◌, record_at, word_at}
use Rattle.py_fields.specs.declared.layout.Layout.{Layout}
use Rattle.py_builtins.specs.Integers.{long_at}
use Rattle.py_builtins.specs.Texts.{text_at}
use Rattle.py_builtins.specs.Types.{type_at}
use Rattle.py_tasks.specs.declared.task.TaskName.{TaskName}
use Rattle.py_tasks.specs.declared.task.TaskName.TheVariants.{Text, Number}
use Rattle.py_tasks.specs.Faults.{found_or_none}

-- the characters of bytes that are UTF-8; none where they aren't
abbrev pub text_if : Option (List ℕ) → Option (List ℕ)
text_if None = None
text_if (Some bytes) = if is_utf8 bytes then Some (chars bytes) else None

-- the bytes before the first nul, where they are a text
abbrev pub class_name : List ℕ → Option (List ℕ)
class_name bytes = text_if (until_nul bytes)

-- the name of the type of the object at an address
unfoldable pub class_text_at : Layout → Memory → ℕ → Found (Option (List ℕ))
class_text_at l m a = do
  t ← type_at l m a
  bytes ← record_at m t.name 128
  Ok (class_name bytes)

-- the name of the type of the object at an address; none where it can't be read
unfoldable pub class_at : Layout → Memory → ℕ → Found (Option (List ℕ))
class_at l m a = Ok (found_or_none (class_text_at l m a))

-- the name that the text at an address is
unfoldable pub text_name_at : Layout → Memory → ℕ → Found (Option TaskName)
text_name_at l m a = do
  text ← text_at l m a
  Ok (Some (Text text))

-- a number as a name; none where the integer has more than two digits (`PyLongObject`)
abbrev pub number_or : Bool → ℕ → Option TaskName
number_or true n = None
number_or false n = Some (Number n)

-- the name that the integer at an address is
unfoldable pub number_at : Layout → Memory → ℕ → Found (Option TaskName)
number_at l m a = do
  number ← long_at l m a
  Ok (number_or number.1 (cast_unsigned w64 number.0))

-- a name, by the flags of its type (`Py_TPFLAGS_UNICODE_SUBCLASS` is bit 28, `Py_TPFLAGS_LONG_SUBCLASS` bit 24)
unfoldable pub typed_name_at : Layout → Memory → ℕ → ℕ → Found (Option TaskName)
typed_name_at l m flags a =
    if nat_eq (flags / 2 ^ 28 % 2) 1 then text_name_at l m a
    else if nat_eq (flags / 2 ^ 24 % 2) 1 then number_at l m a
    else Ok None

-- the name that a task's record names
unfoldable pub own_name_at : Layout → Memory → ℕ → ℕ → Found (Option TaskName)
own_name_at l m place task = do
  a ← word_at m (task + place)
  t ← type_at l m a
  typed_name_at l m t.flags a

-- the name of the task at an address
unfoldable pub name_at : Layout → Memory → Option ℕ → ℕ → Found (Option TaskName)
name_at l m None task = Ok None
name_at l m (Some place) task = Ok (found_or_none (own_name_at l m place task))
