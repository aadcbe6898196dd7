-- How a version is spelled, as in `3.10.0rc1 (tags/v3.10.0rc1, ..`: the text of `Py_GetVersion`, whose parts
-- are CPython's PY_VERSION and what the build adds behind a space. Which numbers and flags count, and that
-- no border is asked for before it, is this project's own rule.
use Rattle.std.specs.Prelude.{◌≡◌, ◌≢◌, ℕ, ◌+◌, ◌*◌, ◌-◌, ◌≤◌, ◌<◌, ◌⊎◌, ◌==◌, ◌||◌, Bool, IsTrue, List, [], ◌∷◌, ◌++◌}
use Rattle.std.specs.Prelude.{Option, Some, None, All, codes, decimal, drop}
use Rattle.std.specs.Char.{IsScalar, encode_utf8, is_ascii_digit}
use Rattle.std.specs.Int.{is_in_range}
use Rattle.py_fields.specs.declared.version.Version.{Version}

-- 2 or 3
pub record IsMajor (text : List ℕ) (n : ℕ) : Type 0 where
  pub text_is : text ≡ decimal n
  pub low : 2 ≤ n
  pub high : n ≤ 3

-- 3 to 14, with no zero in front
pub record IsMinor (text : List ℕ) (n : ℕ) : Type 0 where
  pub text_is : text ≡ decimal n
  pub low : 3 ≤ n
  pub high : n ≤ 14

-- one or two digits, and their number
abbrev pub IsShort : List ℕ → ℕ → Type 0
IsShort [] n = ⊥
IsShort (ones ∷ []) n = IsTrue (is_ascii_digit ones) × (n ≡ ones - 48)
IsShort (tens ∷ ones ∷ []) n = IsTrue (is_ascii_digit tens) × IsTrue (is_ascii_digit ones)
    × (n ≡ (tens - 48) * 10 + (ones - 48))
IsShort (a ∷ b ∷ c ∷ rest) n = ⊥

-- the letters of a release that isn't final
abbrev pub IsLevel : List ℕ → Type 0
IsLevel text = (text ≡ codes "a") ⊎ (text ≡ codes "b") ⊎ (text ≡ codes "c") ⊎ (text ≡ codes "rc")

-- such letters and a number
pub record IsPreRelease (text : List ℕ) : Type 0 where
  pub level : List ℕ
  pub is_level : IsLevel level
  pub number : List ℕ
  pub value : ℕ
  pub is_number : IsShort number value
  pub parts : text ≡ level ++ number

-- the flags are those or nothing
abbrev pub AreFlags : List ℕ → Type 0
AreFlags text = (text ≡ []) ⊎ IsPreRelease text

-- what metadata is made of: 0 to 9, a to z and -
abbrev pub is_metadata : ℕ → Bool
is_metadata c = is_ascii_digit c || is_in_range 97 122 c || c == 45

-- a run of these, not empty
pub record IsMetadataRun (run : List ℕ) : Type 0 where
  pub some : run ≢ []
  pub all : All (λ c. IsTrue (is_metadata c)) run

-- runs, each behind a dot
abbrev pub dotted_after : List (List ℕ) → List ℕ
dotted_after [] = []
dotted_after (run ∷ runs) = codes "." ++ (run ++ dotted_after runs)

-- runs with a dot between each two
abbrev pub dotted : List (List ℕ) → List ℕ
dotted [] = []
dotted (run ∷ runs) = run ++ dotted_after runs

-- `+` and runs joined by dots, or by none nothing
pub record IsBuild (text metadata : List ℕ) : Type 0 where
  pub runs : List (List ℕ)
  pub each : All IsMetadataRun runs
  pub are : metadata ≡ dotted runs
  pub parts : text ≡ codes "+" ++ metadata

-- the metadata of a build, where its `+` stands
abbrev pub IsMetadata : List ℕ → Option (List ℕ) → Type 0
IsMetadata text None = text ≡ []
IsMetadata text (Some metadata) = IsBuild text metadata

-- the space that ends a version, and the character behind it, which doesn't end the line
pub record IsEnd (text : List ℕ) : Type 0 where
  pub char : ℕ
  pub scalar : IsScalar char
  pub no_newline : char ≢ 10
  pub parts : text ≡ codes " " ++ encode_utf8 char

-- a text spells a version: its numbers with dots between them, its flags, its metadata, and the end
pub record Spells (text : List ℕ) (v : Version) : Type 0 where
  pub major : List ℕ
  pub is_major : IsMajor major v.major
  pub minor : List ℕ
  pub is_minor : IsMinor minor v.minor
  pub patch : List ℕ
  pub is_patch : IsShort patch v.patch
  pub are_flags : AreFlags v.release_flags
  pub metadata : List ℕ
  pub is_metadata : IsMetadata metadata v.build_metadata
  pub last : List ℕ
  pub is_end : IsEnd last
  pub parts : text ≡ major
      ++ (codes "." ++ (minor ++ (codes "." ++ (patch ++ (v.release_flags ++ (metadata ++ last))))))

-- at this place of some bytes, from 0 on, stands a text that spells the version
pub record SpellsAt (bytes : List ℕ) (place : ℕ) (text : List ℕ) (v : Version) : Type 0 where
  pub after : List ℕ
  pub parts : drop place bytes ≡ text ++ after
  pub spells : Spells text v

-- the version that stands leftmost in some bytes
pub record IsLeftmost (bytes : List ℕ) (v : Version) : Type 0 where
  pub place : ℕ
  pub text : List ℕ
  pub here : SpellsAt bytes place text v
  pub first : (k : ℕ) (other : List ℕ) (w : Version) → k < place → ¬ SpellsAt bytes k other w

-- no version stands anywhere in some bytes
abbrev pub SpellsNone : List ℕ → Type 0
SpellsNone bytes = (place : ℕ) (text : List ℕ) (v : Version) → ¬ SpellsAt bytes place text v

-- at no place of some bytes do two texts spell versions
abbrev pub SpellsOnce : List ℕ → Type 0
SpellsOnce bytes = (place : ℕ) (text other : List ℕ) (v w : Version) → SpellsAt bytes place text v
    → SpellsAt bytes place other w → (text ≡ other) × (v ≡ w)
