-- The version that the names of a process's mapped files tell, where nothing else does: a major and a minor number, as
-- `libpython3.11.so.1.0`, `python3.11` and `libpython3.6m.so.1.0` have them. That names tell one is this project's own
-- rule, after py-spy.
use Rattle.std.specs.Prelude.{ℕ, ◌-◌, nat_eq, nat_lt, ◌&&◌, not, Bool, false, if◌then◌else◌, List, [], ◌∷◌, ◌++◌}
use Rattle.std.specs.Prelude.{length, slice_index, take, Option, Some, None, option_and_then, option_map, codes}
use Rattle.std.specs.List.{after_last, list_all, slice_split}
use Rattle.image_memory.specs.declared.maps.CoreMapRange.{CoreMapRange}
use Rattle.py_fields.specs.Version.{is_dot, release}
use Rattle.py_fields.specs.declared.version.Version.{Version}
use Rattle.py_process.specs.FileVersions.{behind_front, decimal_of, is_slash}

-- a major and a minor number, where both are there
abbrev pub both_numbers : Option ℕ → Option ℕ → Option (ℕ × ℕ)
both_numbers (Some major) (Some minor) = Some (major, minor)
both_numbers _ _ = None

-- less the letter `m` at its end, where one stands there: up to 3.7 it names a build with pymalloc, whose
-- records are those of one without. No other letter of a build is taken away: their records are others
abbrev pub without_m : List ℕ → List ℕ
without_m text = if nat_lt 0 (length text) && nat_eq (slice_index text (length text - 1)) 109
    then take (length text - 1) text else text

-- the numbers of the first two parts between dots
abbrev pub first_numbers : List (List ℕ) → Option (ℕ × ℕ)
first_numbers (major ∷ minor ∷ rest) = both_numbers (decimal_of major) (decimal_of (without_m minor))
first_numbers _ = None

-- the numbers of the first two parts of a text between dots
abbrev pub numbers_in : List ℕ → Option (ℕ × ℕ)
numbers_in text = first_numbers (slice_split is_dot text)

-- behind the word for Python's library, or else for its program
abbrev pub library_or_program : List ℕ → Option (List ℕ) → Option (ℕ × ℕ)
library_or_program part None = option_and_then numbers_in (behind_front (codes "python") part)
library_or_program part (Some rest) = numbers_in rest

-- the numbers that the last part of a path tells
unfoldable pub name_numbers : List ℕ → Option (ℕ × ℕ)
name_numbers path = library_or_program (after_last is_slash path)
    (behind_front (codes "libpython") (after_last is_slash path))

-- those of a map's file
abbrev pub map_numbers : CoreMapRange → Option (ℕ × ℕ)
map_numbers map = option_and_then name_numbers map.pathname

-- a list with these numbers before it, where there are some
abbrev pub with_numbers : Option (ℕ × ℕ) → List (ℕ × ℕ) → List (ℕ × ℕ)
with_numbers None rest = rest
with_numbers (Some numbers) rest = numbers ∷ rest

-- all that the maps tell, in order
unfoldable pub numbers_told : List CoreMapRange → List (ℕ × ℕ)
numbers_told [] = []
numbers_told (map ∷ rest) = with_numbers (map_numbers map) (numbers_told rest)

-- whether two pairs of a major and a minor number are the same
abbrev pub same_numbers : ℕ × ℕ → ℕ × ℕ → Bool
same_numbers one other = nat_eq one.0 other.0 && nat_eq one.1 other.1

-- that of all, where none tells another
abbrev pub the_only : List (ℕ × ℕ) → Option (ℕ × ℕ)
the_only [] = None
the_only (one ∷ rest) = if list_all (same_numbers one) rest then Some one else None

-- ---- as they are read

-- whether numbers differ from those that were told before, if some were
abbrev pub differs : Option (ℕ × ℕ) → ℕ × ℕ → Bool
differs None numbers = false
differs (Some one) numbers = not (same_numbers one numbers)

-- ---- a version

-- the version that the names tell; its patch is told as 0
unfoldable pub version_of_names : List CoreMapRange → Option Version
version_of_names maps = option_map (λ numbers. release numbers.0 numbers.1 0) (the_only (numbers_told maps))
