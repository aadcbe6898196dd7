-- How a literal in quotes is read: Python's own rule (Language Reference, 'Lexical analysis', string and bytes
-- literals), as far as `repr` uses it. It knows of no writer.
use Rattle.std.specs.Prelude.{◌≡◌, ◌≢◌, ◌⊎◌, ℕ, ◌<◌, ◌^◌, ◌==◌, All, Option, Some, None, List, [], ◌∷◌, ◌++◌, length}
use Rattle.std.specs.Prelude.{if◌then◌else◌}
use Rattle.std.specs.Prelude.{encode_utf8}
use Rattle.std.specs.Char.{IsScalar}
use Rattle.std.specs.Str.Parse.{digits_value, AllDigits}

-- numbers of 32 bits, as all code points are
abbrev pub AreWords : List ℕ → Type 0
AreWords points = All (λ c. c < 2 ^ 32) points

-- the code point that a character stands for behind a backslash
abbrev pub escape_of : ℕ → Option ℕ
escape_of k =
    if k == 34 then Some 34
    else if k == 39 then Some 39
    else if k == 92 then Some 92
    else if k == 116 then Some 9
    else if k == 110 then Some 10
    else if k == 114 then Some 13
    else None

-- how many hexadecimal digits follow it
abbrev pub hex_width : ℕ → Option ℕ
hex_width k = if k == 120 then Some 2 else if k == 117 then Some 4 else if k == 85 then Some 8 else None

-- so many hexadecimal digits and the number that they write
pub record IsHex (n : ℕ) (text : List ℕ) (value : ℕ) : Type 0 where
  pub long : length text ≡ n
  pub all : AllDigits 16 text
  pub is : digits_value 16 text ≡ value

-- the bytes begin with one code point, and these follow
pub data Point (quote : ℕ) (text : List ℕ) (c : ℕ) (after : List ℕ) : Type 0 where
  -- by a backslash and a character
  escaped : (k : ℕ) → escape_of k ≡ Some c → text ≡ 92 ∷ k ∷ after → Point quote text c after
  -- by its number
  numbered : (k n : ℕ) (hex : List ℕ) → hex_width k ≡ Some n → IsHex n hex c → text ≡ 92 ∷ k ∷ (hex ++ after)
      → Point quote text c after
  -- a character for itself
  plain : IsScalar c → c ≢ quote → c ≢ 92 → text ≡ encode_utf8 c ++ after → Point quote text c after

-- the bytes up to the quote that ends a literal, its code points, and the bytes behind that quote
pub data Points (quote : ℕ) : List ℕ → List ℕ → List ℕ → Type 0 where
  end : (text points rest : List ℕ) → text ≡ quote ∷ rest → points ≡ [] → Points quote text points rest
  more : (text points rest : List ℕ) (c : ℕ) (after others : List ℕ) → Point quote text c after → points ≡ c ∷ others
      → Points quote after others rest → Points quote text points rest

-- a literal: a quote, what stands within, the same quote; and what follows
pub record Literal (text points rest : List ℕ) : Type 0 where
  pub quote : ℕ
  pub is : (quote ≡ 34) ⊎ (quote ≡ 39)
  pub within : List ℕ
  pub text_is : text ≡ quote ∷ within
  pub points_are : Points quote within points rest
