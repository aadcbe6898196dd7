-- What an exception says: the text that `str` gives, by the rule of its class (`BaseException_str`, `KeyError_str`,
-- `OSError_str`, `ImportError_str`, `SyntaxError_str`, `BaseExceptionGroup_str`: Objects/exceptions.c; those of
-- Unicode's errors).
use Rattle.std.specs.Prelude.{ℕ, ◌++◌, ◌+◌, ◌==◌, ◌&&◌, Bool, true, false, if◌then◌else◌, List, [], ◌∷◌, length, Option}
use Rattle.std.specs.Prelude.{Some, None, codes, decimal}
use Rattle.exception_texts.specs.Unicode.{coded_shown, data_shown, unicode_text}
use Rattle.exception_texts.specs.Values.{arguments_text, repr_text, str_text, tuple_text}
use Rattle.exception_texts.specs.declared.unicode.Deed.TheVariants.{Encode, Decode, Translate}
use Rattle.py_exceptions.specs.declared.unicode.InvalidData.{InvalidData}
use Rattle.py_exceptions.specs.declared.value.Value.{Value}
use Rattle.py_exceptions.specs.declared.value.Value.TheVariants.{Absent, Text, LongText, Number, LongNumber, Truth}
use Rattle.py_exceptions.specs.declared.value.Value.TheVariants.{Nothing}
use Rattle.py_exceptions.specs.declared.value.Value.TheVariants.{Float, Other}
use Rattle.py_exceptions.specs.declared.values.Values.{Values}
use Rattle.py_exceptions.specs.declared.said.Said.{Said}
use Rattle.py_exceptions.specs.declared.rule.Rule.{Rule}
use Rattle.py_exceptions.specs.declared.rule.Rule.TheVariants as rule
use Rattle.thread_exceptions.specs.Groups.{Members}

-- what can't be read may have a value
abbrev pub has_value : Option Value → Bool
has_value (Some Absent) = false
has_value (Some Nothing) = true
has_value (Some (Text t)) = true
has_value (Some (LongText a)) = true
has_value (Some (Number n)) = true
has_value (Some (LongNumber a negative)) = true
has_value (Some (Truth truth)) = true
has_value (Some (Float bits)) = true
has_value (Some (Other a class)) = true
has_value None = true

-- whether a value is a text, of any length
abbrev pub is_text : Option Value → Bool
is_text (Some (Text t)) = true
is_text (Some (LongText a)) = true
is_text (Some Absent) = false
is_text (Some Nothing) = false
is_text (Some (Number n)) = false
is_text (Some (LongNumber a negative)) = false
is_text (Some (Truth truth)) = false
is_text (Some (Float bits)) = false
is_text (Some (Other a class)) = false
is_text None = false

-- whether a value is an integer, of any size
abbrev pub is_number : Option Value → Bool
is_number (Some (Number n)) = true
is_number (Some (LongNumber a negative)) = true
is_number (Some (Text t)) = false
is_number (Some (LongText a)) = false
is_number (Some Absent) = false
is_number (Some Nothing) = false
is_number (Some (Truth truth)) = false
is_number (Some (Float bits)) = false
is_number (Some (Other a class)) = false
is_number None = false

-- nothing by none, one as it is printed, more in parentheses
abbrev pub by_items : Bool → List (Option Value) → Values → List ℕ
by_items is_raw [] values = []
by_items is_raw (only ∷ []) values = str_text is_raw only
by_items is_raw (first ∷ second ∷ rest) values = tuple_text is_raw values

-- what `BaseException_str` gives: nothing without an argument, `str` of one, or the tuple of several
abbrev pub count_text : Bool → Values → List ℕ
count_text is_raw values = by_items is_raw values.values.items values

-- the same; `?` where the arguments can't be read
abbrev pub plain_said : Bool → Option Values → List ℕ
plain_said is_raw None = codes "?"
plain_said is_raw (Some values) = count_text is_raw values

-- a key as code has it
abbrev pub by_key : Bool → List (Option Value) → Values → List ℕ
by_key is_raw [] values = []
by_key is_raw (only ∷ []) values = repr_text is_raw only
by_key is_raw (first ∷ second ∷ rest) values = tuple_text is_raw values

-- what `KeyError_str` gives: nothing without an argument, `repr` of one, or the tuple of several
abbrev pub one_text : Bool → Values → List ℕ
one_text is_raw values = by_key is_raw values.values.items values

-- the same; `?` where the arguments can't be read
abbrev pub key_text : Bool → Option Values → List ℕ
key_text is_raw None = codes "?"
key_text is_raw (Some values) = one_text is_raw values

-- [Errno n] text
abbrev pub system_lead : Bool → Option Value → Option Value → List ℕ
system_lead is_raw errno said = codes "[Errno " ++ (str_text is_raw errno ++ (codes "] " ++ str_text is_raw said))

-- the second file of an `OSError`, behind ` -> `; nothing where there is none
abbrev pub second_text : Bool → Option Value → List ℕ
second_text is_raw second = if has_value second then codes " -> " ++ repr_text is_raw second else []

-- the file of an `OSError`, and the second one, as code has them
abbrev pub system_file : Bool → Option Value → Option Value → List ℕ
system_file is_raw file second = codes ": " ++ (repr_text is_raw file ++ second_text is_raw second)

-- an `OSError` with a file: `[Errno n] text: 'file'`, and the second one behind it
abbrev pub with_file : Bool → (errno said file second : Option Value) → List ℕ
with_file is_raw errno said file second = system_lead is_raw errno said ++ system_file is_raw file second

-- an `OSError` without a file: `[Errno n] text`, or its arguments where number or text is missing
abbrev pub without_file : Bool → (errno said : Option Value) → Option Values → List ℕ
without_file is_raw errno said arguments =
    if has_value errno && has_value said then system_lead is_raw errno said else plain_said is_raw arguments

-- what `OSError_str` gives: with a file or without
abbrev pub system_text : Bool → (errno said file second : Option Value) → Option Values → List ℕ
system_text is_raw errno said file second arguments =
    if has_value file then with_file is_raw errno said file second else without_file is_raw errno said arguments

-- what `ImportError_str` gives: its message, or its arguments where that is no text
abbrev pub import_text : Bool → Option Value → Option Values → List ℕ
import_text is_raw said arguments = if is_text said then str_text is_raw said else plain_said is_raw arguments

-- the file of a `SyntaxError`, as it is printed
abbrev pub file_text : Bool → Option Value → List ℕ
file_text is_raw file = str_text is_raw file

-- the line of a `SyntaxError`: `line n`
abbrev pub line_text : Bool → Option Value → List ℕ
line_text is_raw line = codes "line " ++ str_text is_raw line

-- the line behind a file, after a comma; nothing where it is no number
abbrev pub behind_file : Bool → Option Value → List ℕ
behind_file is_raw line = if is_number line then codes ", " ++ line_text is_raw line else []

-- the line without a file, in parentheses; nothing where it is no number
abbrev pub line_alone : Bool → Option Value → List ℕ
line_alone is_raw line = if is_number line then codes " (" ++ (line_text is_raw line ++ codes ")") else []

-- (file, line n): of the whole path
abbrev pub place_text : Bool → Option Value → Option Value → List ℕ
place_text is_raw file line = if is_text file
    then codes " (" ++ (file_text is_raw file ++ (behind_file is_raw line ++ codes ")"))
    else line_alone is_raw line

-- what `SyntaxError_str` gives, but with the file's whole path
abbrev pub syntax_text : Bool → (said file line : Option Value) → List ℕ
syntax_text is_raw said file line = str_text is_raw said ++ place_text is_raw file line

-- how many exceptions a group has: ` (1 sub-exception)`, or ` (n sub-exceptions)`
abbrev pub counted_text : ℕ → List ℕ
counted_text n = if n == 1 then codes " (1 sub-exception)" else codes " (" ++ (decimal n ++ codes " sub-exceptions)")

-- the same, of those told and those left out
abbrev pub number_text : ℕ → ℕ → List ℕ
number_text told left_out = counted_text (told + left_out)

-- how many exceptions a group has; `?` where its members can't be read
abbrev pub members_text : Members → List ℕ
members_text (Members.Group its left_out) = number_text (length its) left_out
members_text Members.NoGroup = codes " (? sub-exceptions)"
members_text (Members.Lost f) = codes " (? sub-exceptions)"

-- what `BaseExceptionGroup_str` gives: the message, and how many exceptions it has
abbrev pub group_text : Bool → Option Value → Members → List ℕ
group_text is_raw said own = str_text is_raw said ++ members_text own

-- what `UnicodeEncodeError_str` gives
abbrev pub encode_text : Bool → Option Value → InvalidData → Option Values → List ℕ
encode_text is_raw encoding d arguments =
    unicode_text Encode is_raw encoding d arguments (coded_shown encoding d)

-- what `UnicodeDecodeError_str` gives
abbrev pub decode_text : Bool → Option Value → InvalidData → Option Values → List ℕ
decode_text is_raw encoding d arguments =
    unicode_text Decode is_raw encoding d arguments (coded_shown encoding d)

-- what `UnicodeTranslateError_str` gives
abbrev pub translate_text : Bool → InvalidData → Option Values → List ℕ
translate_text is_raw d arguments = unicode_text Translate is_raw None d arguments (data_shown d)

-- what an exception says by this rule; its arguments in parentheses where the rule is not known
abbrev pub by_rule : Bool → Rule → Option Values → Members → List ℕ
by_rule is_raw rule.Plain arguments own = plain_said is_raw arguments
by_rule is_raw rule.Key arguments own = key_text is_raw arguments
by_rule is_raw (rule.System errno said file second) arguments own = system_text is_raw errno said file second arguments
by_rule is_raw (rule.Import said) arguments own = import_text is_raw said arguments
by_rule is_raw (rule.Syntax said file line) arguments own = syntax_text is_raw said file line
by_rule is_raw (rule.Group said) arguments own = group_text is_raw said own
by_rule is_raw (rule.Encode encoding d) arguments own = encode_text is_raw encoding d arguments
by_rule is_raw (rule.Decode encoding d) arguments own = decode_text is_raw encoding d arguments
by_rule is_raw (rule.Translate d) arguments own = translate_text is_raw d arguments
by_rule is_raw (rule.Own class) arguments own = arguments_text is_raw arguments
by_rule is_raw rule.Unreadable arguments own = arguments_text is_raw arguments

-- what an exception says; its arguments in parentheses, where that can't be told
abbrev pub message_text : Bool → Said → Members → List ℕ
message_text is_raw s own = by_rule is_raw s.rule s.arguments own
