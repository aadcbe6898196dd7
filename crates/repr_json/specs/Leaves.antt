-- The JSON of values without others in them: an object whose kind says which. The keys of an object stand in the order
-- of their bytes, addresses and bits are texts in hexadecimal digits. All of it is this project's own rule.
use Rattle.std.specs.Prelude.{ℕ, ◌+◌, ◌*◌, ◌/◌, ◌%◌, ◌^◌, ℤ, pos, neg_ℤ, int_le, nat_le, nat_lt, ◌&&◌, Bool, false}
use Rattle.std.specs.Prelude.{if◌then◌else◌, List, [], ◌∷◌, ◌++◌, Option, Some, None, codes, encode_utf8}
use Rattle.std.specs.Prelude.{encode_utf8_all}
use Rattle.std.specs.Fmt.{digits, signed_decimal}
use Rattle.std.specs.List.{flat_map}
use lib.Utf8.{scalar}
use Rattle.serde_json.specs.Data.{Data, Members, array, boolean, member, no_members, null, number, object, string, unsigned}
use Rattle.serde_json.specs.Find.{of_integer}
use Rattle.serde_json.specs.View.{items_of}
use Rattle.python_literals.specs.Integers.{integer_text}
use Rattle.py_reprs.specs.declared.coroutines.CoroutineForm.{CoroutineForm}
use Rattle.py_reprs.specs.declared.coroutines.CoroutineForm.TheVariants as form
use Rattle.py_reprs.specs.declared.coroutines.CoroutineState.{CoroutineState}
use Rattle.py_reprs.specs.declared.coroutines.CoroutineState.TheVariants as state
use Rattle.py_reprs.specs.declared.kinds.Kind.{Kind}
use Rattle.py_reprs.specs.declared.kinds.Kind.TheVariants as kind
use Rattle.py_reprs.specs.declared.repr.BytesForm.{BytesForm}
use Rattle.py_reprs.specs.declared.repr.BytesForm.TheVariants as bytes
use Rattle.py_reprs.specs.declared.repr.IntegerForm.{IntegerForm}
use Rattle.py_reprs.specs.declared.repr.IntegerForm.TheVariants as integer
use Rattle.py_reprs.specs.declared.repr.TextForm.{TextForm}
use Rattle.py_reprs.specs.declared.repr.TextForm.TheVariants as text

-- `0x` and lower-case hexadecimal digits
abbrev pub hex_tree : ℕ → Data
hex_tree n = string (codes "0x" ++ digits 16 false n)

-- a name, or null where it isn't known
abbrev pub name_tree : Option (List ℕ) → Data
name_tree (Some name) = string (encode_utf8_all name)
name_tree None = null

-- a kind that has one value alone
abbrev pub kind_tree : List ℕ → Data
kind_tree kind = object (member (codes "kind") (string kind) no_members)

-- a kind and a value
abbrev pub valued_tree : List ℕ → Data → Data
valued_tree kind value = object (member (codes "kind") (string kind) (member (codes "value") value no_members))

-- a `bool` as JSON
abbrev pub truth_tree : Bool → Data
truth_tree truth = valued_tree (codes "bool") (boolean truth)

-- the word for an integer: `long` is Python 2's
abbrev pub integer_kind : IntegerForm → List ℕ
integer_kind integer.Int = codes "int"
integer_kind integer.Long = codes "long"

-- the number of two digits of 30 bits at most, where it is at most 2^53: up to there each reader of JSON has all
-- integers exactly
abbrev pub small_number : List ℕ → Option ℕ
small_number [] = Some 0
small_number (low ∷ []) = Some low
small_number (low ∷ high ∷ []) = if nat_le (low + high * 2 ^ 30) (2 ^ 53) then Some (low + high * 2 ^ 30) else None
small_number (low ∷ high ∷ more ∷ rest) = None

-- a number with its sign
abbrev pub signed : Bool → ℕ → ℤ
signed is_negative n = if is_negative then neg_ℤ (pos n) else pos n

-- an integer as a number, or its decimal digits as a text
abbrev pub number_or_text : Bool → List ℕ → Option ℕ → Data
number_or_text is_negative digits (Some small) = number (of_integer (signed is_negative small))
number_or_text is_negative digits None = string (integer_text is_negative digits)

-- an integer by its digits of 30 bits, as JSON
abbrev pub integer_tree : IntegerForm → Bool → List ℕ → Data
integer_tree form is_negative digits =
    valued_tree (integer_kind form) (number_or_text is_negative digits (small_number digits))

-- Python 2's `int`, of at most 8 bytes
abbrev pub small_integer_tree : ℤ → Data
small_integer_tree z = valued_tree (codes "int") (if int_le (neg_ℤ (pos (2 ^ 53))) z && int_le z (pos (2 ^ 53))
    then number (of_integer z) else string (signed_decimal z))

-- an integer that is too long to be told: how many digits of 30 bits it has
abbrev pub huge_tree : IntegerForm → Bool → ℕ → Data
huge_tree form is_negative count = object (
    member (codes "digits") (number (unsigned count)) (
    member (codes "kind") (string (integer_kind form)) (
    member (codes "negative") (boolean is_negative) (
    member (codes "value") null no_members))))

-- a float by its bits, with its decimal
abbrev pub float_tree : (bits : ℕ) → (decimal : List ℕ) → Data
float_tree bits decimal = object (
    member (codes "bits") (hex_tree bits) (
    member (codes "kind") (string (codes "float")) (
    member (codes "text") (string decimal) no_members)))

-- a part of a complex number
abbrev pub part_tree : (bits : ℕ) → (decimal : List ℕ) → Data
part_tree bits decimal = object (
    member (codes "bits") (hex_tree bits) (
    member (codes "text") (string decimal) no_members))

-- a complex number by the JSON of its parts
abbrev pub complex_tree : (real imaginary : Data) → Data
complex_tree real imaginary = object (
    member (codes "imaginary") imaginary (
    member (codes "kind") (string (codes "complex")) (
    member (codes "real") real no_members)))

-- a code point as a character: U+FFFD for one that is none
abbrev pub character_of : ℕ → ℕ
character_of point = if scalar point then point else 0xFFFD

-- code points in UTF-8, with U+FFFD for each that is no character
abbrev pub characters : List ℕ → List ℕ
characters front = flat_map (λ point. encode_utf8 (character_of point)) front

-- the word for a text: `unicode` is Python 2's
abbrev pub text_kind : TextForm → List ℕ
text_kind text.Str = codes "str"
text_kind text.Unicode = codes "unicode"

-- a text as JSON: its first characters, and how many it has
abbrev pub text_tree : TextForm → List ℕ → ℕ → Data
text_tree form front length = object (
    member (codes "kind") (string (text_kind form)) (
    member (codes "length") (number (unsigned length)) (
    member (codes "value") (string (characters front)) no_members)))

-- Python 2's `str` holds bytes
abbrev pub bytes_kind : BytesForm → List ℕ
bytes_kind bytes.Bytes = codes "bytes"
bytes_kind bytes.ByteArray = codes "bytearray"
bytes_kind bytes.Str = codes "byte string"

-- a hexadecimal digit, in lower case
abbrev pub hex_digit : ℕ → ℕ
hex_digit n = if nat_lt n 10 then 48 + n else 87 + n

-- bytes, each in two of them
abbrev pub hex_text : List ℕ → List ℕ
hex_text front = flat_map (λ byte. hex_digit (byte / 16) ∷ hex_digit (byte % 16) ∷ []) front

-- bytes as JSON: the first in hexadecimal digits, and how many there are
abbrev pub bytes_tree : BytesForm → List ℕ → ℕ → Data
bytes_tree form front length = object (
    member (codes "hex") (string (hex_text front)) (
    member (codes "kind") (string (bytes_kind form)) (
    member (codes "length") (number (unsigned length)) no_members)))

-- what has a name and stands at an address
abbrev pub named_tree : List ℕ → Option (List ℕ) → ℕ → Data
named_tree kind name addr = object (
    member (codes "address") (hex_tree addr) (
    member (codes "kind") (string kind) (
    member (codes "name") (name_tree name) no_members)))

-- a function as JSON, with its file and its first line
abbrev pub function_tree : Option (List ℕ) → Option (List ℕ) → ℕ → ℕ → Data
function_tree name file line addr = object (
    member (codes "address") (hex_tree addr) (
    member (codes "file") (name_tree file) (
    member (codes "kind") (string (codes "function")) (
    member (codes "line") (number (unsigned line)) (
    member (codes "name") (name_tree name) no_members)))))

-- the word for what a coroutine is
abbrev pub form_word : CoroutineForm → List ℕ
form_word form.Coroutine = codes "coroutine"
form_word form.Generator = codes "generator"
form_word form.AsyncGenerator = codes "async generator"

-- the word for how far one has come
abbrev pub state_word : CoroutineState → List ℕ
state_word state.Created = codes "created"
state_word state.Suspended = codes "suspended"
state_word state.Running = codes "running"
state_word state.Finished = codes "finished"

-- how far one has come, or null where that isn't known
abbrev pub state_tree : Option CoroutineState → Data
state_tree None = null
state_tree (Some s) = string (state_word s)

-- a coroutine, a generator or an async generator
abbrev pub coroutine_tree : CoroutineForm → Option (List ℕ) → Option CoroutineState → ℕ → Data
coroutine_tree f name s addr = object (
    member (codes "address") (hex_tree addr) (
    member (codes "kind") (string (form_word f)) (
    member (codes "name") (name_tree name) (
    member (codes "state") (state_tree s) no_members))))

-- an object of another type
abbrev pub opaque_tree : Option (List ℕ) → ℕ → Data
opaque_tree class addr = object (
    member (codes "address") (hex_tree addr) (
    member (codes "kind") (string (codes "object")) (
    member (codes "type") (name_tree class) no_members)))

-- an instance by its attributes that are shown, and how many more there are
abbrev pub instance_tree : Option (List ℕ) → ℕ → List Data → ℕ → Data
instance_tree class addr parts left_out = object (
    member (codes "address") (hex_tree addr) (
    member (codes "attributes") (array (items_of parts)) (
    member (codes "kind") (string (codes "instance")) (
    member (codes "more") (number (unsigned left_out)) (
    member (codes "type") (name_tree class) no_members)))))

-- the word for a kind
abbrev pub kind_word : Kind → List ℕ
kind_word kind.Nothing = codes "none"
kind_word kind.Ellipsis = codes "ellipsis"
kind_word kind.NotImplemented = codes "not implemented"
kind_word kind.Truth = codes "bool"
kind_word kind.Integer = codes "int"
kind_word kind.SmallInteger = codes "int"
kind_word kind.Float = codes "float"
kind_word kind.Complex = codes "complex"
kind_word kind.Text = codes "str"
kind_word kind.Bytes = codes "bytes"
kind_word kind.ByteArray = codes "bytearray"
kind_word kind.List = codes "list"
kind_word kind.Tuple = codes "tuple"
kind_word kind.Dict = codes "dict"
kind_word kind.Set = codes "set"
kind_word kind.FrozenSet = codes "frozenset"
kind_word kind.Range = codes "range"
kind_word kind.Slice = codes "slice"
kind_word kind.Cell = codes "cell"
kind_word kind.Class = codes "class"
kind_word kind.Function = codes "function"
kind_word kind.Method = codes "method"
kind_word kind.Builtin = codes "builtin"
kind_word kind.Module = codes "module"
kind_word (kind.Coroutine f) = form_word f
kind_word kind.Other = codes "object"

-- bytes of a value that are not in memory
abbrev pub lost_tree : Kind → ℕ → ℕ → Data
lost_tree kind addr len = object (
    member (codes "address") (hex_tree addr) (
    member (codes "kind") (string (codes "unreadable")) (
    member (codes "length") (number (unsigned len)) (
    member (codes "of") (string (kind_word kind)) no_members))))

-- a value whose record says what can't be
abbrev pub damaged_tree : Kind → ℕ → Data
damaged_tree kind addr = object (
    member (codes "address") (hex_tree addr) (
    member (codes "kind") (string (codes "damaged")) (
    member (codes "of") (string (kind_word kind)) no_members)))
