-- What an exception says is told exactly as Python's `str` does: each value in it is one whose text is known.
use Rattle.std.specs.Prelude.{ℕ, nat_eq, nat_lt, nat_le, not, ◌||◌, ◌&&◌, Bool, true, false, if◌then◌else◌, List, []}
use Rattle.std.specs.Prelude.{◌∷◌}
use Rattle.std.specs.Prelude.{Option, Some, None, encode_utf8_all}
use Rattle.std.specs.List.{list_all, list_any}
use Rattle.exception_texts.specs.Said.{has_value, is_number, is_text}
use Rattle.exception_texts.specs.Unicode.{coded_shown, data_shown, is_known}
use Rattle.py_exceptions.specs.declared.value.Value.{Value}
use Rattle.py_exceptions.specs.declared.value.Value.TheVariants.{Absent, Text, LongText, Number, LongNumber, Truth}
use Rattle.py_exceptions.specs.declared.value.Value.TheVariants.{Nothing}
use Rattle.py_exceptions.specs.declared.value.Value.TheVariants.{Float, Other}
use Rattle.py_exceptions.specs.declared.values.Values.{Values}
use Rattle.py_exceptions.specs.declared.said.Said.{Said}
use Rattle.py_exceptions.specs.declared.rule.Rule.{Rule}
use Rattle.py_exceptions.specs.declared.rule.Rule.TheVariants as rule
use Rattle.thread_exceptions.specs.Groups.{Members}

-- a byte that stands otherwise in code than by itself, or may
abbrev pub is_special : ℕ → Bool
is_special b = nat_lt b 32 || nat_le 127 b || nat_eq b 34 || nat_eq b 39 || nat_eq b 92

-- whether some byte is a control, no ASCII, a quote or a backslash
abbrev pub has_special : List ℕ → Bool
has_special bytes = list_any (λ b. is_special b) bytes

-- whether a text has no such byte, so that `repr` does no more than put quotes around it
abbrev pub is_plain : List ℕ → Bool
is_plain t = not (has_special (encode_utf8_all t))

-- whether what Python's `str` gives for a value is told exactly; None is one that can't be read
abbrev pub str_known : Option Value → Bool
str_known (Some Absent) = true
str_known (Some Nothing) = true
str_known (Some (Text t)) = true
str_known (Some (Number n)) = true
str_known (Some (Truth truth)) = true
str_known (Some (LongText a)) = false
str_known (Some (LongNumber a negative)) = false
str_known (Some (Float bits)) = false
str_known (Some (Other a class)) = false
str_known None = false

-- whether what Python's `repr` gives for a value is told exactly; None is one that can't be read
abbrev pub repr_known : Option Value → Bool
repr_known (Some Absent) = true
repr_known (Some Nothing) = true
repr_known (Some (Text t)) = is_plain t
repr_known (Some (Number n)) = true
repr_known (Some (Truth truth)) = true
repr_known (Some (LongText a)) = false
repr_known (Some (LongNumber a negative)) = false
repr_known (Some (Float bits)) = false
repr_known (Some (Other a class)) = false
repr_known None = false

-- whether the `repr` of each of the values is told exactly
abbrev pub all_repr : List (Option Value) → Bool
all_repr values = list_all (λ v. repr_known v) values

-- whether all values of a tuple are told, and the `repr` of each exactly
abbrev pub tuple_known : Values → Bool
tuple_known v = nat_eq v.left_out 0 && all_repr v.values.items

-- whether `BaseException_str` of these arguments is told exactly: by `str` of one, else by their tuple
abbrev pub plain_items : List (Option Value) → Values → Bool
plain_items [] v = true
plain_items (only ∷ []) v = str_known only
plain_items (first ∷ second ∷ rest) v = tuple_known v

-- the same, of arguments that were read
abbrev pub plain_values : Values → Bool
plain_values v = plain_items v.values.items v

-- whether what `BaseException_str` gives is told exactly; not where the arguments can't be read
abbrev pub plain_known : Option Values → Bool
plain_known (Some v) = plain_values v
plain_known None = false

-- whether `KeyError_str` of these arguments is told exactly: by `repr` of one, else by their tuple
abbrev pub key_items : List (Option Value) → Values → Bool
key_items [] v = true
key_items (only ∷ []) v = repr_known only
key_items (first ∷ second ∷ rest) v = tuple_known v

-- the same, of arguments that were read
abbrev pub key_values : Values → Bool
key_values v = key_items v.values.items v

-- whether what `KeyError_str` gives is told exactly; not where the arguments can't be read
abbrev pub key_known : Option Values → Bool
key_known (Some v) = key_values v
key_known None = false

-- whether what an `OSError` without a file says is told exactly
abbrev pub without_file_known : (errno said : Option Value) → Option Values → Bool
without_file_known errno said arguments =
    if has_value errno && has_value said then str_known errno && str_known said else plain_known arguments

-- whether what an `OSError` with a file or two says is told exactly
abbrev pub with_file_known : (errno said file second : Option Value) → Bool
with_file_known errno said file second = str_known errno && str_known said && repr_known file && repr_known second

-- whether what `OSError_str` gives is told exactly
abbrev pub system_known : (errno said file second : Option Value) → Option Values → Bool
system_known errno said file second arguments =
    if has_value file then with_file_known errno said file second else without_file_known errno said arguments

-- whether what `ImportError_str` gives is told exactly
abbrev pub import_known : Option Value → Option Values → Bool
import_known said arguments = if is_text said then str_known said else plain_known arguments

-- whether what `SyntaxError_str` gives is told exactly; not with a file, of whose path Python shows only the end
abbrev pub syntax_known : (said file line : Option Value) → Bool
syntax_known said file line =
    if is_text file then false else if is_number line then str_known said && str_known line else str_known said

-- whether an exception group's members can be counted
abbrev pub has_members : Members → Bool
has_members (Members.Group its left_out) = true
has_members Members.NoGroup = false
has_members (Members.Lost f) = false

-- whether what an exception says by this rule is told exactly as Python's `str` does
abbrev pub rule_knows : Rule → Option Values → Members → Bool
rule_knows rule.Plain arguments own = plain_known arguments
rule_knows rule.Key arguments own = key_known arguments
rule_knows (rule.System errno said file second) arguments own = system_known errno said file second arguments
rule_knows (rule.Import said) arguments own = import_known said arguments
rule_knows (rule.Syntax said file line) arguments own = syntax_known said file line
rule_knows (rule.Group said) arguments own = str_known said && has_members own
rule_knows (rule.Encode encoding d) arguments own = is_known (coded_shown encoding d)
rule_knows (rule.Decode encoding d) arguments own = is_known (coded_shown encoding d)
rule_knows (rule.Translate d) arguments own = is_known (data_shown d)
rule_knows (rule.Own class) arguments own = false
rule_knows rule.Unreadable arguments own = false

-- whether what an exception says is told exactly as Python's `str` does
abbrev pub knows : Said → Members → Bool
knows s own = rule_knows s.rule s.arguments own
