-- Values without others in them, in the manner of `repr` (Objects/longobject.c, Objects/boolobject.c,
-- Objects/typeobject.c, Objects/bytearrayobject.c and their like). This project's own are: classes by their bare names,
-- and as Python 3 writes them; functions with their files and lines; modules by their names alone; what is left out,
-- can't be read, or is an object of another type.
use Rattle.std.specs.Prelude.{ℕ, ◌+◌, ◌-◌, ◌*◌, ◌^◌, ◌==◌, min, ℤ, Bool, true, false, Option, Some, None}
use Rattle.std.specs.Prelude.{if◌then◌else◌, List, [], ◌∷◌}
use Rattle.std.specs.Prelude.{◌++◌, codes, length, decimal}
use Rattle.std.specs.Fmt.{digits, signed_decimal}
use Rattle.python_literals.specs.Integers.{integer_text}
use Rattle.python_literals.specs.Quotes.{quoted}
use Rattle.python_literals.specs.declared.quotes.Style.TheVariants.{Printable, Ascii, ByteArray as InArray}
use Rattle.py_reprs.specs.declared.kinds.Kind.{Kind}
use Rattle.py_reprs.specs.declared.kinds.Kind.TheVariants as kind
use Rattle.py_reprs.specs.declared.repr.BytesForm.{BytesForm}
use Rattle.py_reprs.specs.declared.repr.BytesForm.TheVariants as bytes
use Rattle.py_reprs.specs.declared.repr.IntegerForm.{IntegerForm}
use Rattle.py_reprs.specs.declared.repr.IntegerForm.TheVariants as integer
use Rattle.py_reprs.specs.declared.repr.TextForm.{TextForm}
use Rattle.py_reprs.specs.declared.repr.TextForm.TheVariants as text
use Rattle.repr_texts.specs.Coroutines.{form_text}
use Rattle.repr_texts.specs.Names.{address_text, name_text, quoted_name}

-- `True` or `False`
abbrev pub truth_text : Bool → List ℕ
truth_text true = codes "True"
truth_text false = codes "False"

-- Python 2's `long` ends in an L
abbrev pub suffix_of : IntegerForm → List ℕ
suffix_of integer.Int = []
suffix_of integer.Long = codes "L"

-- an integer that is too long to be told
abbrev pub huge_text : Bool → ℕ → List ℕ
huge_text is_negative digits =
    (if is_negative then codes "<negative int of " else codes "<int of ")
    ++ (decimal digits ++ codes " digits of 30 bits>")

-- how many there are, where not all are shown
abbrev pub rest_text : ℕ → ℕ → List ℕ → List ℕ
rest_text shown length what = if shown == length then [] else codes ".. " ++ (decimal length ++ what)

-- a text, or its beginning, in quotes as `repr` has it; Python 2's `unicode` behind a u
abbrev pub quoted_text : TextForm → List ℕ → List ℕ
quoted_text text.Str front = quoted Printable front
quoted_text text.Unicode front = codes "u" ++ quoted Ascii front

-- the same, and how many characters there are where not all are shown
abbrev pub text_text : TextForm → List ℕ → ℕ → List ℕ
text_text form front count = quoted_text form front ++ rest_text (length front) count (codes " characters")

-- bytes, or their beginning, in quotes as `repr` has them; Python 2's `str` without the b
abbrev pub quoted_bytes : BytesForm → List ℕ → List ℕ
quoted_bytes bytes.Bytes front = codes "b" ++ quoted Ascii front
quoted_bytes bytes.ByteArray front = codes "bytearray(b" ++ (quoted InArray front ++ codes ")")
quoted_bytes bytes.Str front = quoted Ascii front

-- the same, and how many bytes there are where not all are shown
abbrev pub bytes_text : BytesForm → List ℕ → ℕ → List ℕ
bytes_text form front count = quoted_bytes form front ++ rest_text (length front) count (codes " bytes")

-- a class by its name: `<class 'name'>`
abbrev pub class_text : Option (List ℕ) → List ℕ
class_text name = codes "<class " ++ (quoted_name name ++ codes ">")

-- a function by its name and its address, with its file and its first line
abbrev pub function_text : Option (List ℕ) → Option (List ℕ) → ℕ → ℕ → List ℕ
function_text name file line addr = codes "<function " ++ (name_text name ++ (address_text addr
    ++ (codes " (" ++ (name_text file ++ (codes ":" ++ (decimal line ++ codes ")>"))))))

-- how the text of a function of C begins
unfoldable pub builtin_opening : List ℕ
builtin_opening = codes "<built-in function "

-- a function of C by its name: `<built-in function name>`
abbrev pub builtin_text : Option (List ℕ) → List ℕ
builtin_text name = builtin_opening ++ (name_text name ++ codes ">")

-- a module by its name: `<module 'name'>`
abbrev pub module_text : Option (List ℕ) → List ℕ
module_text name = codes "<module " ++ (quoted_name name ++ codes ">")

-- an object of another type by its type and its address: `<type at 0x..>`
abbrev pub opaque_text : Option (List ℕ) → ℕ → List ℕ
opaque_text class addr = codes "<" ++ (name_text class ++ (address_text addr ++ codes ">"))

-- what stands before the attributes of an instance of a class
unfoldable pub instance_opening : Option (List ℕ) → ℕ → List ℕ
instance_opening class addr = codes "<" ++ (name_text class ++ (address_text addr ++ codes ": "))

-- the word for a kind
abbrev pub kind_text : Kind → List ℕ
kind_text kind.Nothing = codes "None"
kind_text kind.Ellipsis = codes "Ellipsis"
kind_text kind.NotImplemented = codes "NotImplemented"
kind_text kind.Truth = codes "bool"
kind_text kind.Integer = codes "int"
kind_text kind.SmallInteger = codes "int"
kind_text kind.Float = codes "float"
kind_text kind.Complex = codes "complex"
kind_text kind.Text = codes "str"
kind_text kind.Bytes = codes "bytes"
kind_text kind.ByteArray = codes "bytearray"
kind_text kind.List = codes "list"
kind_text kind.Tuple = codes "tuple"
kind_text kind.Dict = codes "dict"
kind_text kind.Set = codes "set"
kind_text kind.FrozenSet = codes "frozenset"
kind_text kind.Range = codes "range"
kind_text kind.Slice = codes "slice"
kind_text kind.Cell = codes "cell"
kind_text kind.Class = codes "class"
kind_text kind.Function = codes "function"
kind_text kind.Method = codes "method"
kind_text kind.Builtin = codes "built-in function"
kind_text kind.Module = codes "module"
kind_text (kind.Coroutine form) = form_text form
kind_text kind.Other = codes "object"

-- a value of this kind of which so many bytes at an address can't be read
abbrev pub lost_text : Kind → ℕ → ℕ → List ℕ
lost_text kind addr len =
    codes "<" ++ (kind_text kind ++ (codes ": " ++ (decimal len
    ++ (codes " bytes unreadable" ++ (address_text addr ++ codes ">")))))

-- a value of this kind whose record says what can't be
abbrev pub damaged_text : Kind → ℕ → List ℕ
damaged_text kind addr = codes "<" ++ (kind_text kind ++ (codes ": broken" ++ (address_text addr ++ codes ">")))
