-- The texts that values are shown as. They are this project's own, but for those of CPython's `repr` on
-- integers, truth values and `None`, and what stands for a quote and a newline in a text is py-spy's.
use Rattle.std.specs.Prelude.{ℕ, zero, suc, ℤ, pos, negsuc, ◌-◌, nat_lt, ◌==◌, Bool, true, false, List, [], ◌∷◌, ◌++◌}
use Rattle.std.specs.Prelude.{length, take, replicate, Ok, Err, if◌then◌else◌, codes, decimal, bytes_eq}
use Rattle.std.specs.Fmt.{signed_decimal, digits}
use Rattle.std.specs.List.{flat_map}
use Rattle.std.specs.Str.{is_utf8, chars}
use Rattle.std.specs.Char.{encode_utf8}
use Rattle.std.specs.Int.{w8, w16, w32, w64, cast_signed}
use Rattle.elf64_core.specs.Fields.{u64_in, u32_in, u16_in, u8_in}
use Rattle.process_memory.specs.Memory.{Found, Fault}
use Rattle.process_memory.specs.Memory.Fault.{BadBool}
use Rattle.py_objects.specs.declared.kinds.Scalar.{Scalar}
use Rattle.py_objects.specs.declared.kinds.Scalar.TheVariants.{Truth, U8, U16, U32, U64, I8, I16, I32, I64, F32, F64}

-- what stands in place of what has no room
abbrev pub dots : List ℕ
dots = codes "..."

-- the bytes before the first nul
unfoldable pub before_nul : List ℕ → List ℕ
before_nul [] = []
before_nul (b ∷ bs) = if b == 0 then [] else b ∷ before_nul bs

-- bytes that are a text in UTF-8, or a fault
unfoldable pub text_or : List ℕ → Fault → Found (List ℕ)
text_or bytes f = if is_utf8 bytes then Ok bytes else Err f

-- the word of a Bool, which is an integer above 0 or not
abbrev pub truth_of : ℤ → List ℕ
truth_of (pos zero) = codes "False"
truth_of (pos (suc n)) = codes "True"
truth_of (negsuc n) = codes "False"

-- a number of the type of a name: one of the type `bool` is true above 0
unfoldable pub number_text : List ℕ → ℤ → List ℕ
number_text name z = if bytes_eq name (codes "bool") then truth_of z else signed_decimal z

-- a number that is too big to be shown, by its sign
abbrev pub bigint_text : ℤ → List ℕ
bigint_text (pos n) = codes "+bigint"
bigint_text (negsuc n) = codes "-bigint"

-- the text of an integer: of up to two digits its number, else that it is a big one
abbrev pub long_text : List ℕ → ℤ × Bool → List ℕ
long_text name (z, true) = bigint_text z
long_text name (z, false) = number_text name z

-- a number in so many hexadecimal digits at least
unfoldable pub hex_of : ℕ → ℕ → List ℕ
hex_of n x = replicate (n - length (digits 16 false x)) 48 ++ digits 16 false x

-- a float by its bits, in so many hexadecimal digits
abbrev pub float_text : ℕ → ℕ → List ℕ
float_text n bits = codes "float 0x" ++ hex_of n bits

-- a truth value of one byte
unfoldable pub byte_truth : ℕ → Found (List ℕ)
byte_truth zero = Ok (codes "false")
byte_truth (suc zero) = Ok (codes "true")
byte_truth (suc (suc n)) = Err (BadBool (suc (suc n)))

-- one of numpy's numbers, by its bytes, the lowest first
abbrev pub scalar_text : Scalar → List ℕ → Found (List ℕ)
scalar_text Truth bytes = byte_truth (u8_in bytes 0)
scalar_text U8 bytes = Ok (decimal (u8_in bytes 0))
scalar_text U16 bytes = Ok (decimal (u16_in bytes 0))
scalar_text U32 bytes = Ok (decimal (u32_in bytes 0))
scalar_text U64 bytes = Ok (decimal (u64_in bytes 0))
scalar_text I8 bytes = Ok (signed_decimal (cast_signed w8 (u8_in bytes 0)))
scalar_text I16 bytes = Ok (signed_decimal (cast_signed w16 (u16_in bytes 0)))
scalar_text I32 bytes = Ok (signed_decimal (cast_signed w32 (u32_in bytes 0)))
scalar_text I64 bytes = Ok (signed_decimal (cast_signed w64 (u64_in bytes 0)))
scalar_text F32 bytes = Ok (float_text 8 (u32_in bytes 0))
scalar_text F64 bytes = Ok (float_text 16 (u64_in bytes 0))

-- a value by the name of its type and its address
unfoldable pub other_text : List ℕ → ℕ → List ℕ
other_text name a = codes "<" ++ (name ++ (codes " at 0x" ++ (digits 16 false a ++ codes ">")))

-- a character of a text, or what stands for a quote or a newline
unfoldable pub escape : ℕ → List ℕ
escape c = if c == 39 then codes "\\\"" else if c == 10 then codes "\\n" else c ∷ []

-- the characters that a text in UTF-8 shows
unfoldable pub escaped : List ℕ → List ℕ
escaped text = flat_map escape (chars text)

-- a text in quotes, cut to a number of characters
unfoldable pub quoted : ℕ → List ℕ → List ℕ
quoted n text =
    codes "\"" ++ flat_map encode_utf8 (take n (escaped text))
    ++ (if nat_lt n (length (escaped text)) then dots else []) ++ codes "\""
