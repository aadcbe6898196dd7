-- Whether parts of a library's name stand at the front of some bytes, as the reader tests it. `Library` says
-- what such a name is.
use Rattle.std.specs.Prelude.{ℕ, ◌==◌, ◌&&◌, ◌||◌, nat_eq, Bool, false, not, if◌then◌else◌, List, [], ◌∷◌, drop, Option}
use Rattle.std.specs.Prelude.{Some, None, codes}
use Rattle.std.specs.Char.{is_ascii_digit}
use Rattle.std.specs.List.{starts_with}
use Rattle.bstr.specs.Utf8.{decoded}

-- whether a character is there and doesn't end the line
abbrev pub is_mark : Option ℕ → Bool
is_mark None = false
is_mark (Some c) = not (c == 10)

-- what is behind a character that doesn't end the line
abbrev pub past_mark : List ℕ → Option (List ℕ)
past_mark bytes = if is_mark (decoded bytes).char then Some (drop (decoded bytes).size bytes) else None

-- whether bytes begin with `so`
abbrev pub begins_so : List ℕ → Bool
begins_so (s ∷ o ∷ rest) = s == 115 && o == 111
begins_so _ = false

-- the same of what is behind the character, where there is one
abbrev pub end_behind : Option (List ℕ) → Bool
end_behind None = false
end_behind (Some rest) = begins_so rest

-- such a character, and `so`
abbrev pub has_version_end : List ℕ → Bool
has_version_end bytes = end_behind (past_mark bytes)

-- whether a character is a flag of a build: `m`, `d` or `u`
abbrev pub is_flag : ℕ → Bool
is_flag c = c == 109 || c == 100 || c == 117

-- a flag of a build, and then that end
abbrev pub flag_end : List ℕ → Bool
flag_end [] = false
flag_end (c ∷ rest) = is_flag c && has_version_end rest

-- the same, maybe behind a flag
abbrev pub has_flag_end : List ℕ → Bool
has_flag_end bytes = has_version_end bytes || flag_end bytes

-- a digit, and then the end that may have a flag
abbrev pub digit_end : List ℕ → Bool
digit_end [] = false
digit_end (c ∷ rest) = is_ascii_digit c && has_flag_end rest

-- the same, maybe behind a digit
abbrev pub has_minor_end : List ℕ → Bool
has_minor_end bytes = has_flag_end bytes || digit_end bytes

-- a digit, and that end
abbrev pub has_minor : List ℕ → Bool
has_minor [] = false
has_minor (c ∷ rest) = is_ascii_digit c && has_minor_end rest

-- the same of what is behind the character, where there is one
abbrev pub minor_behind : Option (List ℕ) → Bool
minor_behind None = false
minor_behind (Some rest) = has_minor rest

-- the same behind a digit and a character that doesn't end the line
abbrev pub has_version : List ℕ → Bool
has_version [] = false
has_version (c ∷ rest) = is_ascii_digit c && minor_behind (past_mark rest)

-- the whole name
abbrev pub begins_library : List ℕ → Bool
begins_library bytes = starts_with nat_eq bytes (codes "/libpython") && has_version (drop 10 bytes)
