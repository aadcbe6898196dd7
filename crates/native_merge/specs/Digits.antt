-- Numbers in front of a text, in ASCII digits.
use Rattle.std.specs.Prelude.{◌≡◌, ◌≢◌, ℕ, ◌^◌, ◌<◌, List, [], length, take, drop}
use Rattle.std.specs.List.{prefix_len}
use Rattle.std.specs.Char.{is_ascii_digit}
use Rattle.std.specs.Str.Parse.{digits_value}
use Rattle.native_merge.specs.declared.digits.Number.{Number}

-- the digits that a text begins with
abbrev pub leading_digits : List ℕ → List ℕ
leading_digits text = take (prefix_len is_ascii_digit text) text

-- a text begins with one or more digits, and their number is one of a u64
pub record HasNumber (text : List ℕ) : Type 0 where
  pub some : leading_digits text ≢ []
  pub fits : digits_value 10 (leading_digits text) < 2 ^ 64

-- the number that a text begins with
pub record IsNumberOf (text : List ℕ) (number : Number) : Type 0 where
  pub has : HasNumber text
  pub value : number.value ≡ digits_value 10 (leading_digits text)
  pub digits : number.digits ≡ length (leading_digits text)
  pub rest : number.rest.now ≡ drop (length (leading_digits text)) text
