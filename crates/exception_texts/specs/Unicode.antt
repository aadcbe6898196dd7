-- What the errors of Unicode's say (`UnicodeEncodeError_str`, `UnicodeDecodeError_str`, `UnicodeTranslateError_str` of
-- Objects/exceptions.c). One character or byte is shown where the data ends right behind its start and the object has
-- anything there; else where the data begins and where its last one stands. A start below 0 is read otherwise by some
-- versions, and what isn't told whole isn't shown: then the arguments are, which is this project's rule.
use Rattle.std.specs.Prelude.{ℕ, ◌+◌, ◌-◌, ◌%◌, ◌^◌, ◌++◌, ◌&&◌, nat_eq, Bool, true, false, if◌then◌else◌, List}
use Rattle.std.specs.Prelude.{[]}
use Rattle.std.specs.Prelude.{Option, Some, None, codes}
use Rattle.std.specs.Fmt.{signed_decimal}
use Rattle.std.specs.Int.{w64, cast_signed}
use Rattle.python_literals.specs.Quotes.{hex_of, hex_text}
use Rattle.exception_texts.specs.declared.unicode.Deed.{Deed}
use Rattle.exception_texts.specs.declared.unicode.Deed.TheVariants.{Encode, Decode, Translate}
use Rattle.exception_texts.specs.declared.unicode.Shown.{Shown}
use Rattle.exception_texts.specs.declared.unicode.Shown.TheVariants.{Nothing, One, Several, Unknown}
use Rattle.exception_texts.specs.Values.{arguments_text, str_text}
use Rattle.py_exceptions.specs.declared.unicode.InvalidData.{InvalidData}
use Rattle.py_exceptions.specs.declared.unit.Unit.{Unit}
use Rattle.py_exceptions.specs.declared.unit.Unit.TheVariants as unit
use Rattle.py_exceptions.specs.declared.value.Value.{Value}
use Rattle.py_exceptions.specs.declared.value.Value.TheVariants as value
use Rattle.py_exceptions.specs.declared.values.Values.{Values}

-- the number before one of 8 bytes
abbrev pub before : ℕ → ℕ
before n = (n + (2 ^ 64 - 1)) % 2 ^ 64

-- one, where the object has it
abbrev pub one_shown : Option Unit → ℕ → Shown
one_shown None at = Unknown
one_shown (Some unit.Outside) at = Several at at
one_shown (Some (unit.Is n)) at = One n at

-- data from one place to before another one
abbrev pub span_shown : Option Unit → ℕ → ℕ → Shown
span_shown first start end =
    if nat_eq (before end) start then one_shown first start else Several start (before end)

-- the same, where both places are known
abbrev pub place_shown : Option Unit → Option ℕ → Option ℕ → Shown
place_shown first None end = Unknown
place_shown first (Some start) None = Unknown
place_shown first (Some start) (Some end) = span_shown first start end

-- whether a value is a text that is told whole
abbrev pub is_whole : Option Value → Bool
is_whole (Some (value.Text t)) = true
is_whole (Some (value.LongText a)) = false
is_whole (Some value.Absent) = false
is_whole (Some value.Nothing) = false
is_whole (Some (value.Number n)) = false
is_whole (Some (value.LongNumber a negative)) = false
is_whole (Some (value.Truth truth)) = false
is_whole (Some (value.Float bits)) = false
is_whole (Some (value.Other a class)) = false
is_whole None = false

-- an error without an object was not initialized, and says nothing
abbrev pub object_shown : Option ℕ → Bool → Shown → Shown
object_shown None is_told shown = Unknown
object_shown (Some a) is_told shown = if nat_eq a 0 then Nothing else if is_told then shown else Unknown

-- what is shown of the data of an error that translates
abbrev pub data_shown : InvalidData → Shown
data_shown d = object_shown d.object (is_whole d.reason) (place_shown d.first d.start d.end)

-- the same of one that codes
abbrev pub coded_shown : Option Value → InvalidData → Shown
coded_shown encoding d =
    object_shown d.object (is_whole encoding && is_whole d.reason) (place_shown d.first d.start d.end)

-- what is said can be told
abbrev pub is_known : Shown → Bool
is_known Nothing = true
is_known (One n at) = true
is_known (Several first last) = true
is_known Unknown = false

-- a number of 8 bytes with its sign
abbrev pub signed_text : ℕ → List ℕ
signed_text n = signed_decimal (cast_signed w64 n)

-- a character by its number, in two, four or eight hexadecimal digits
unfoldable pub number_text : ℕ → List ℕ
number_text n = hex_text n

-- the same in quotes
abbrev pub quoted_number : ℕ → List ℕ
quoted_number n = codes "'" ++ (number_text n ++ codes "'")

-- one character, by its number
abbrev pub character_text : ℕ → List ℕ
character_text n = codes "character " ++ quoted_number n

-- one byte, in two hexadecimal digits
abbrev pub byte_text : ℕ → List ℕ
byte_text n = codes "byte 0x" ++ hex_of 2 n

-- what can't be coded: one of it, or several
abbrev pub one_text : Deed → ℕ → List ℕ
one_text Encode n = character_text n
one_text Decode n = byte_text n
one_text Translate n = character_text n

-- several of them
abbrev pub several_text : Deed → List ℕ
several_text Encode = codes "characters"
several_text Decode = codes "bytes"
several_text Translate = codes "characters"

-- the coding, by its name
abbrev pub codec_text : Bool → Option Value → List ℕ
codec_text is_raw encoding = codes "'" ++ (str_text is_raw encoding ++ codes "' codec ")

-- what could not be done
abbrev pub deed_text : Deed → Bool → Option Value → List ℕ
deed_text Encode is_raw encoding = codec_text is_raw encoding ++ codes "can't encode "
deed_text Decode is_raw encoding = codec_text is_raw encoding ++ codes "can't decode "
deed_text Translate is_raw encoding = codes "can't translate "

-- why
abbrev pub reason_text : Bool → InvalidData → List ℕ
reason_text is_raw d = codes ": " ++ str_text is_raw d.reason

-- one of what can't be coded, and its place
abbrev pub one_said : Deed → ℕ → ℕ → List ℕ
one_said deed n at = one_text deed n ++ (codes " in position " ++ signed_text at)

-- several, and the places of the first and the last one
abbrev pub several_said : Deed → ℕ → ℕ → List ℕ
several_said deed first last =
    several_text deed ++ (codes " in position " ++ (signed_text first ++ (codes "-" ++ signed_text last)))

-- what such an error says, by what is shown of its data
abbrev pub unicode_text : Deed → Bool → Option Value → InvalidData → Option Values → Shown → List ℕ
unicode_text deed is_raw encoding d arguments Nothing = []
unicode_text deed is_raw encoding d arguments (One n at) =
    deed_text deed is_raw encoding ++ (one_said deed n at ++ reason_text is_raw d)
unicode_text deed is_raw encoding d arguments (Several first last) =
    deed_text deed is_raw encoding ++ (several_said deed first last ++ reason_text is_raw d)
unicode_text deed is_raw encoding d arguments Unknown = arguments_text is_raw arguments
