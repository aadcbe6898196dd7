-- Values that an exception has, within a line: as code has them (`repr`), and as they are printed (`str`).
use Rattle.std.specs.Prelude.{ℕ, ◌++◌, ◌==◌, Bool, true, false, if◌then◌else◌, List, [], ◌∷◌, map, Option, Some, None}
use Rattle.std.specs.Prelude.{codes}
use Rattle.std.specs.Prelude.{decimal, encode_utf8_all}
use Rattle.std.specs.Fmt.{digits, signed_decimal}
use Rattle.std.specs.List.{concat}
use Rattle.salvage_texts.specs.Escape.{escaped}
use Rattle.py_exceptions.specs.declared.value.Value.{Value}
use Rattle.py_exceptions.specs.declared.value.Value.TheVariants.{Absent, Text, LongText, Number, LongNumber, Truth}
use Rattle.py_exceptions.specs.declared.value.Value.TheVariants.{Nothing}
use Rattle.py_exceptions.specs.declared.value.Value.TheVariants.{Float, Other}
use Rattle.py_exceptions.specs.declared.values.Values.{Values}

-- a text: as it is, or escaped within a line
abbrev pub plain_text : Bool → List ℕ → List ℕ
plain_text is_raw t = if is_raw then encode_utf8_all t else escaped false t

-- a text within quotes: as it is, or with quotes and backslashes escaped too
abbrev pub own_name_text : Bool → List ℕ → List ℕ
own_name_text is_raw t = if is_raw then encode_utf8_all t else escaped true t

-- the same in single quotes
abbrev pub quoted_text : Bool → List ℕ → List ℕ
quoted_text is_raw t = codes "'" ++ (own_name_text is_raw t ++ codes "'")

-- an address at the end of angle brackets
abbrev pub at_text : ℕ → List ℕ
at_text a = codes " at 0x" ++ (digits 16 false a ++ codes ">")

-- a name, escaped; `?` where it can't be read
abbrev pub name_text : Option (List ℕ) → List ℕ
name_text None = codes "?"
name_text (Some name) = escaped true name

-- an object by its class and its address: `<class at 0x..>`
abbrev pub class_text : Option (List ℕ) → ℕ → List ℕ
class_text class a = codes "<" ++ (name_text class ++ at_text a)

-- `True` or `False`
abbrev pub truth_text : Bool → List ℕ
truth_text truth = if truth then codes "True" else codes "False"

-- what is too long to be told
abbrev pub long_text : List ℕ → ℕ → List ℕ
long_text what a = what ++ at_text a

-- a value as code has it
abbrev pub known_repr : Bool → Value → List ℕ
known_repr is_raw Absent = codes "None"
known_repr is_raw Nothing = codes "None"
known_repr is_raw (Text t) = quoted_text is_raw t
known_repr is_raw (LongText a) = long_text (codes "<a long text") a
known_repr is_raw (Number n) = signed_decimal n
known_repr is_raw (LongNumber a negative) = long_text (codes "<a long number") a
known_repr is_raw (Truth truth) = truth_text truth
known_repr is_raw (Float bits) = codes "<a float>"
known_repr is_raw (Other a class) = class_text class a

-- a value as code has it; `?` where it can't be read
abbrev pub repr_text : Bool → Option Value → List ℕ
repr_text is_raw None = codes "?"
repr_text is_raw (Some value) = known_repr is_raw value

-- a value as it is printed
abbrev pub known_str : Bool → Value → List ℕ
known_str is_raw (Text t) = plain_text is_raw t
known_str is_raw Absent = codes "None"
known_str is_raw Nothing = codes "None"
known_str is_raw (LongText a) = long_text (codes "<a long text") a
known_str is_raw (Number n) = signed_decimal n
known_str is_raw (LongNumber a negative) = long_text (codes "<a long number") a
known_str is_raw (Truth truth) = truth_text truth
known_str is_raw (Float bits) = codes "<a float>"
known_str is_raw (Other a class) = class_text class a

-- a value as it is printed; `?` where it can't be read
abbrev pub str_text : Bool → Option Value → List ℕ
str_text is_raw None = codes "?"
str_text is_raw (Some value) = known_str is_raw value

-- a value as code has it, behind a comma
abbrev pub next_text : Bool → Option Value → List ℕ
next_text is_raw value = codes ", " ++ repr_text is_raw value

-- values, each behind a comma
abbrev pub rest_text : Bool → List (Option Value) → List ℕ
rest_text is_raw values = concat (map (λ v. next_text is_raw v) values)

-- values as code has them, with commas between
abbrev pub values_text : Bool → List (Option Value) → List ℕ
values_text is_raw [] = []
values_text is_raw (first ∷ rest) = repr_text is_raw first ++ rest_text is_raw rest

-- how many are left out
abbrev pub left_out_text : ℕ → List ℕ
left_out_text n = if n == 0 then [] else codes ", and " ++ (decimal n ++ codes " more")

-- values in parentheses, and how many are left out
abbrev pub tuple_text : Bool → Values → List ℕ
tuple_text is_raw v = codes "(" ++ (values_text is_raw v.values.items ++ (left_out_text v.left_out ++ codes ")"))

-- the arguments, in parentheses
abbrev pub arguments_text : Bool → Option Values → List ℕ
arguments_text is_raw None = codes "?"
arguments_text is_raw (Some values) = tuple_text is_raw values
