-- Values that exceptions have. Which objects are texts and integers the flags of their types say (`PyUnicode_Check`,
-- `PyLong_Check`, Include/cpython/object.h); truth values, floats and `None` are told by the names of their types. That
-- an object of another type is told by the name of that alone is this project's rule.
use Rattle.std.specs.Prelude.{ℕ, ◌+◌, ◌/◌, ◌%◌, ◌^◌, nat_eq, Bool, true, false, Option, Some, None, List, Ok, Err}
use Rattle.std.specs.Prelude.{if◌then◌else◌, ℤ, pos, int_lt, bytes_eq, codes, encode_utf8_all}
use Rattle.process_memory.specs.Memory.{Found, Memory, ◌>>=◌, record_at, word_at}
use Rattle.process_memory.specs.Memory.Fault.{TooLong}
use Rattle.py_fields.specs.declared.layout.Layout.{Layout}
use Rattle.py_builtins.specs.declared.types.ObjectType.{ObjectType}
use Rattle.py_builtins.specs.Integers.{long_at}
use Rattle.py_builtins.specs.Texts.{text_at}
use Rattle.py_builtins.specs.Types.{type_at}
use Rattle.py_exceptions.specs.declared.value.Value.{Value}
use Rattle.py_exceptions.specs.declared.value.Value.TheVariants as value
use Rattle.py_exceptions.specs.Faults.{found_or_none, known}
use Rattle.py_exceptions.specs.ClassNames.{class_name}

-- whether a name is there and is this word
abbrev pub is_named : List ℕ → Option (List ℕ) → Bool
is_named word None = false
is_named word (Some name) = bytes_eq (encode_utf8_all name) word

-- a text as a value; one that is too long by its address
abbrev pub text_value : ℕ → Found (List ℕ) → Option Value
text_value a (Ok text) = Some (value.Text text)
text_value a (Err (TooLong n)) = Some (value.LongText a)
text_value a (Err f) = None

-- the text at an address as a value
unfoldable pub text_value_at : Layout → Memory → ℕ → Found (Option Value)
text_value_at l m a = Ok (text_value a (text_at l m a))

-- a number as a value: a truth value where it is one of `bool`
abbrev pub short_value : Bool → ℤ → Value
short_value true z = value.Truth (int_lt (pos 0) z)
short_value false z = value.Number z

-- an integer as a value; one that is too long by its address and its sign
abbrev pub number_value : ℕ → Bool → ℤ → Bool → Value
number_value a is_truth z true = value.LongNumber a (int_lt z (pos 0))
number_value a is_truth z false = short_value is_truth z

-- the integer at an address as a value
unfoldable pub number_value_at : Layout → Memory → Bool → ℕ → Found (Option Value)
number_value_at l m is_truth a = do
  number ← long_at l m a
  Ok (Some (number_value a is_truth number.0 number.1))

-- the float at an address as a value, by the 64 bits of its number
unfoldable pub float_value_at : Layout → Memory → ℕ → Found (Option Value)
float_value_at l m a = do
  bits ← word_at m (a + l.float.value)
  Ok (Some (value.Float bits))

-- the object at an address as a value, by the flags and the name of its type (`Py_TPFLAGS_LONG_SUBCLASS` is bit 24)
unfoldable pub named_value_at : Layout → Memory → ℕ → Option (List ℕ) → ℕ → Found (Option Value)
named_value_at l m flags name a =
    if nat_eq (flags / 2 ^ 24 % 2) 1 then number_value_at l m (is_named (codes "bool") name) a
    else if is_named (codes "float") name then float_value_at l m a
    else if is_named (codes "NoneType") name then Ok (Some value.Nothing)
    else Ok (Some (value.Other a name))

-- the same by its type (`Py_TPFLAGS_UNICODE_SUBCLASS` is bit 28)
unfoldable pub typed_value_at : Layout → Memory → ObjectType → ℕ → Found (Option Value)
typed_value_at l m t a =
    if nat_eq (t.flags / 2 ^ 28 % 2) 1 then text_value_at l m a
    else (record_at m t.name 128 >>= (λ bytes. named_value_at l m t.flags (class_name bytes) a))

-- the object at an address as a value, by its type
unfoldable pub value_at : Layout → Memory → ℕ → Found (Option Value)
value_at l m a = type_at l m a >>= (λ t. typed_value_at l m t a)

-- the value at an address, none where it can't be read
unfoldable pub value_told_at : Layout → Memory → ℕ → Option Value
value_told_at l m a = if nat_eq a 0 then Some value.Absent else found_or_none (value_at l m a)

-- the value at an address; none where the address isn't known
abbrev pub value_by : Layout → Memory → Option ℕ → Option Value
value_by l m None = None
value_by l m (Some a) = value_told_at l m a

-- the value that a record names at a place
unfoldable pub field_at : Layout → Memory → ℕ → ℕ → Option Value
field_at l m at place = value_by l m (known (word_at m (at + place)))
