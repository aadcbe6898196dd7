-- Lines of Cython's C files that tell where a piece comes from, as `/* "a.pyx":7`. The form is that of the regular
-- expression by which py-spy finds them, `^\s*/\* "(.+\..+)":([0-9]+)`.
use Rattle.std.specs.Prelude.{◌≡◌, ◌≢◌, ℕ, ◌≤◌, ◌<◌, ◌^◌, List, [], ◌++◌, length, codes}
use Rattle.std.specs.Str.{trim_start}
use Rattle.std.specs.Str.Parse.{digits_value}
use Rattle.native_merge.specs.Digits.{leading_digits}

-- a name with a dot that is neither its first nor its last character
pub record HasInnerDot (name : List ℕ) : Type 0 where
  pub front : List ℕ
  pub back : List ℕ
  pub not_first : front ≢ []
  pub not_last : back ≢ []
  pub parts : name ≡ front ++ (codes "." ++ back)

-- a text names a file, behind whose quote and colon stand digits and whatever follows them
pub record Names (text name rest : List ℕ) : Type 0 where
  pub dotted : HasInnerDot name
  pub digits : leading_digits rest ≢ []
  pub parts : text ≡ name ++ (codes "\":" ++ rest)

-- of all names that a text allows this one is the longest
pub record NamesLongest (text name rest : List ℕ) : Type 0 where
  pub names : Names text name rest
  pub longest : (other after : List ℕ) → Names text other after → length other ≤ length name

-- a line tells a file and a number: it begins with Unicode's white space or none and `/* "`, then comes the name, as
-- long as the form allows, and the number fits a u32
pub record Tells (line name : List ℕ) (number : ℕ) : Type 0 where
  pub text : List ℕ
  pub rest : List ℕ
  pub begins : trim_start line ≡ codes "/* \"" ++ text
  pub names : NamesLongest text name rest
  pub value : number ≡ digits_value 10 (leading_digits rest)
  pub fits : number < 2 ^ 32

-- a line tells nothing
abbrev pub TellsNone : List ℕ → Type 0
TellsNone line = (name : List ℕ) (number : ℕ) → Tells line name number → ⊥

-- no line tells two
abbrev pub TellsOnce : Type 0
TellsOnce = (line name other : List ℕ) (number again : ℕ) → Tells line name number → Tells line other again
    → (name ≡ other) × (number ≡ again)
