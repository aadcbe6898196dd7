-- Floats as `repr` writes them (Objects/floatobject.c, `float_repr`; Python/pystrtod.c, format `r`). That the decimal
-- is the shortest that reads back, and laid out as there, is tested and not said here.
use Rattle.std.specs.Prelude.{◌≡◌, ℕ, ◌%◌, ◌^◌, ◌<◌, nat_le, ◌==◌, List, ◌++◌, codes, Some, if◌then◌else◌}
use Rattle.std.specs.Str.Parse.{starts_with_minus}
use Rattle.std.specs.Float.{binary64, is_sign_negative, ◌≤ᶠ◌}
use Rattle.std.specs.Float.Ieee.{Float, of_bits}
use Rattle.std.specs.Fmt.{sign_text}
use Rattle.ryu.specs.Parse.{parse_float}

-- a decimal that reads back as a float that equals this one, with its sign
pub record IsDecimalOf (x : Float) (text : List ℕ) : Type 0 where
  pub read : Float
  pub reads : parse_float binary64 text ≡ Some read
  pub at_most : read ≤ᶠ x
  pub at_least : x ≤ᶠ read
  pub sign : is_sign_negative read ≡ is_sign_negative x

-- the bits of an infinity's size (IEEE 754, binary64: the exponent's field is all ones, and the fraction 0); above it
-- there is no number
abbrev pub infinity : ℕ
infinity = 0x7ff0_0000_0000_0000

-- the bits without the sign's
abbrev pub size_of : ℕ → ℕ
size_of bits = bits % 2 ^ 63

-- a text of the float with these bits
pub record IsFloatText (bits : ℕ) (text : List ℕ) : Type 0 where
  pub no_number : infinity < size_of bits → text ≡ codes "nan"
  pub infinite : size_of bits ≡ infinity → text ≡ sign_text (nat_le (2 ^ 63) bits) ++ codes "inf"
  pub decimal : size_of bits < infinity → IsDecimalOf (of_bits binary64 bits) text

-- the imaginary part behind the real one: with a sign (Objects/complexobject.c, `complex_repr`)
abbrev pub signed_part : List ℕ → List ℕ
signed_part part = if starts_with_minus part then part else codes "+" ++ part

-- the text of a complex number of two parts
abbrev pub parts_text : List ℕ → List ℕ → List ℕ
parts_text real imaginary = codes "(" ++ (real ++ (signed_part imaginary ++ codes "j)"))

-- a complex number by its parts' texts, and by the bits of the real part: one that is 0 and has no sign is left out
abbrev pub complex_parts : ℕ → List ℕ → List ℕ → List ℕ
complex_parts bits real imaginary = if bits == 0 then imaginary ++ codes "j" else parts_text real imaginary

-- a text of the complex number of two floats with these bits
pub record IsComplexText (real imaginary : ℕ) (text : List ℕ) : Type 0 where
  pub left : List ℕ
  pub left_is : IsFloatText real left
  pub right : List ℕ
  pub right_is : IsFloatText imaginary right
  pub is : text ≡ complex_parts real left right
