-- The names of Python's shared library, as in `/usr/lib/libpython3.9.so.1.0`, by a pattern that py-spy looks
-- for. What stands between the numbers, and before `so`, is any character that doesn't end the line.
use Rattle.std.specs.Prelude.{◌≡◌, ◌≢◌, ◌⊎◌, ℕ, IsTrue, List, [], ◌∷◌, ◌++◌, codes}
use Rattle.std.specs.Char.{IsScalar, encode_utf8, is_ascii_digit}
use Rattle.std.specs.Str.{IsUtf8}

-- a digit; one or none; the letter of a build's flag, or none
abbrev pub IsDigit : ℕ → Type 0
IsDigit c = IsTrue (is_ascii_digit c)

-- at most one character, which is an ASCII digit
abbrev pub IsDigitOrNone : List ℕ → Type 0
IsDigitOrNone [] = Unit {0}
IsDigitOrNone (c ∷ []) = IsDigit c
IsDigitOrNone (c ∷ d ∷ more) = ⊥

-- the letter of a build's flag, or nothing: `m` pymalloc, `d` debug, `u` wide Unicode
abbrev pub IsFlagOrNone : List ℕ → Type 0
IsFlagOrNone text = (text ≡ []) ⊎ (text ≡ codes "m") ⊎ (text ≡ codes "d") ⊎ (text ≡ codes "u")

-- a character that doesn't end the line
pub record IsMark (c : ℕ) : Type 0 where
  pub scalar : IsScalar c
  pub no_newline : c ≢ 10

-- the text is the name of such a library, up to its `so`
pub record IsLibraryName (text : List ℕ) : Type 0 where
  pub major : ℕ
  pub is_major : IsDigit major
  pub between : ℕ
  pub is_between : IsMark between
  pub minor : ℕ
  pub is_minor : IsDigit minor
  pub more : List ℕ
  pub is_more : IsDigitOrNone more
  pub flag : List ℕ
  pub is_flag : IsFlagOrNone flag
  pub last : ℕ
  pub is_last : IsMark last
  pub parts : text ≡ codes "/libpython"
      ++ (major ∷ (encode_utf8 between ++ (minor ∷ (more ++ (flag ++ (encode_utf8 last ++ codes "so"))))))

-- the path is text in which such a name stands somewhere
pub record IsLibrary (path : List ℕ) : Type 0 where
  pub utf8 : IsUtf8 path
  pub before : List ℕ
  pub name : List ℕ
  pub after : List ℕ
  pub is_name : IsLibraryName name
  pub parts : path ≡ before ++ (name ++ after)
