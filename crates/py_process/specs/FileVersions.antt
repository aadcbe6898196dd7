-- The version that the name of Python's program tells, as `python3.9` does. That names tell one is this project's
-- own rule, after py-spy.
use Rattle.std.specs.Prelude.{ℕ, ◌^◌, ◌==◌, ◌&&◌, nat_eq, nat_lt, Bool, if◌then◌else◌, List, ◌∷◌, length, drop, Option}
use Rattle.std.specs.Prelude.{Some, None, option_and_then, codes}
use Rattle.std.specs.Char.{is_ascii_digit}
use Rattle.std.specs.List.{after_last, list_all, slice_split, starts_with}
use Rattle.std.specs.Str.Parse.{digits_value}
use Rattle.py_fields.specs.Version.{is_dot, release}
use Rattle.py_fields.specs.declared.version.Version.{Version}

-- whether a character is `/`
abbrev pub is_slash : ℕ → Bool
is_slash c = c == 47

-- the number that one or more ASCII digits write, where it is below 2^64
abbrev pub decimal_of : List ℕ → Option ℕ
decimal_of digits =
    if nat_lt 0 (length digits) && (list_all is_ascii_digit digits && nat_lt (digits_value 10 digits) (2 ^ 64))
    then Some (digits_value 10 digits) else None

-- a version of two numbers, where both are there
abbrev pub minor_release_by : Option ℕ → Option ℕ → Option Version
minor_release_by (Some major) (Some minor) = Some (release major minor 0)
minor_release_by _ _ = None

-- the version that the first two parts of a name tell
abbrev pub parts_version : List (List ℕ) → Option Version
parts_version (major ∷ minor ∷ rest) = minor_release_by (decimal_of major) (decimal_of minor)
parts_version _ = None

-- what stands behind a word, where a text begins with it
abbrev pub behind_front : List ℕ → List ℕ → Option (List ℕ)
behind_front word text = if starts_with nat_eq text word then Some (drop (length word) text) else None

-- the version that a path tells: its last part is `python` and then parts between dots, of which the first two are
-- numbers
unfoldable pub file_version : List ℕ → Option Version
file_version path = option_and_then (λ numbers. parts_version (slice_split is_dot numbers))
    (behind_front (codes "python") (after_last is_slash path))
