-- What the parts of a version's reader take off the front of some bytes: each its value and the bytes behind
-- it. Where none is right, the reader gives up; `Spelling` says what a version is.
use Rattle.std.specs.Prelude.{◌≡◌, ℕ, ◌+◌, ◌*◌, ◌-◌, ◌<◌, ◌==◌, ◌&&◌, ◌||◌, Bool, true, false, not, if◌then◌else◌, List}
use Rattle.std.specs.Prelude.{[], ◌∷◌, length, take, drop, Option, Some, None, option_and_then, is_none}
use Rattle.std.specs.Borrow.{Bor}
use Rattle.std.specs.Char.{is_ascii_digit}
use Rattle.std.specs.Int.{is_in_range}
use Rattle.std.specs.List.{prefix_len}
use Rattle.bstr.specs.Utf8.{decoded}
use Rattle.py_fields.specs.declared.version.Version.{Version}
use Rattle.py_fields.specs.declared.spelling.Spelling.{Spelling}
use Rattle.py_fields.specs.Spelling.{is_metadata}

-- a number and the bytes behind it
abbrev pub Front : Type 0
Front = Option (ℕ × List ℕ)

-- a number that a text begins with, and the bytes behind it
abbrev pub front_of : Option (ℕ × Bor (List ℕ)) → Front
front_of None = None
front_of (Some x) = Some (x.0, x.1.now)

-- `2` or `3`, and a dot
abbrev pub major_front : List ℕ → Front
major_front (n ∷ dot ∷ rest) = if is_in_range 50 51 n && dot == 46 then Some (n - 48, rest) else None
major_front _ = None

-- `3` to `9`, and a dot
abbrev pub low_minor : ℕ → ℕ → List ℕ → Front
low_minor n dot rest = if is_in_range 51 57 n && dot == 46 then Some (n - 48, rest) else None

-- `10` to `14`, and a dot
abbrev pub high_minor : ℕ → ℕ → List ℕ → Front
high_minor tens ones (dot ∷ rest) = if tens == 49 && is_in_range 48 52 ones && dot == 46 then Some (ones - 38, rest)
    else None
high_minor tens ones [] = None

-- the first where there is one, else the second
abbrev pub or_front : Front → Front → Front
or_front (Some x) other = Some x
or_front None other = other

-- a minor version of two digits, or else of one, that a text begins with
abbrev pub minor_front : List ℕ → Front
minor_front (a ∷ b ∷ rest) = or_front (low_minor a b rest) (high_minor a b rest)
minor_front _ = None

-- one digit
abbrev pub digit_front : List ℕ → Front
digit_front (n ∷ rest) = if is_ascii_digit n then Some (n - 48, rest) else None
digit_front [] = None

-- a number of exactly two digits; none where a third one follows
abbrev pub two_digits : ℕ → List ℕ → Front → Front
two_digits tens rest None = Some (tens, rest)
two_digits tens rest (Some ones) = if is_none (digit_front ones.1) then Some (tens * 10 + ones.0, ones.1) else None

-- one or two digits, with none behind them
abbrev pub short_front : List ℕ → Front
short_front bytes = option_and_then (λ first. two_digits first.0 first.1 (digit_front first.1)) (digit_front bytes)

-- how many letters of flags there are
abbrev pub level_len : List ℕ → ℕ
level_len [] = 0
level_len (a ∷ []) = if is_in_range 97 99 a then 1 else 0
level_len (a ∷ b ∷ rest) = if is_in_range 97 99 a then 1 else (if a == 114 && b == 99 then 2 else 0)

-- how many bytes there are in front of what a reader left
abbrev pub len_before : ℕ → Front → ℕ
len_before n None = 0
len_before n (Some x) = n - length x.1

-- how many bytes of flags there are
abbrev pub flags_len : List ℕ → ℕ
flags_len bytes = if level_len bytes == 0 then 0
    else len_before (length bytes) (short_front (drop (level_len bytes) bytes))

-- a byte of metadata, or a dot between two runs of it
abbrev pub is_dotted : ℕ → Bool
is_dotted c = is_metadata c || c == 46

-- how many of these there are
abbrev pub metadata_len : List ℕ → ℕ
metadata_len bytes = prefix_len is_dotted bytes

-- whether no dot stands last, beside a dot, or first where one stood before
abbrev pub are_runs_after : Bool → List ℕ → Bool
are_runs_after after_dot [] = not after_dot
are_runs_after after_dot (c ∷ rest) = not (after_dot && c == 46) && are_runs_after (c == 46) rest

-- whether these are runs joined by dots
abbrev pub are_runs : List ℕ → Bool
are_runs [] = true
are_runs (c ∷ rest) = are_runs_after true (c ∷ rest)

-- metadata that is made of runs of letters, digits and dashes, and what follows it
abbrev pub runs_front : List ℕ → List ℕ → Option (Option (List ℕ) × List ℕ)
runs_front metadata rest = if are_runs metadata then Some (Some metadata, rest) else None

-- `+` and its metadata, where a `+` stands
abbrev pub metadata_front : List ℕ → Option (Option (List ℕ) × List ℕ)
metadata_front [] = Some (None, [])
metadata_front (plus ∷ rest) =
    if plus == 43 then runs_front (take (metadata_len rest) rest) (drop (metadata_len rest) rest)
    else Some (None, plus ∷ rest)

-- the bytes of a borrowed text, where there is one
abbrev pub borrowed : Option (Bor (List ℕ)) → Option (List ℕ)
borrowed None = None
borrowed (Some x) = Some x.now

-- metadata and the rest of a text, with their bytes
abbrev pub metadata_of : Option (Option (Bor (List ℕ)) × Bor (List ℕ)) → Option (Option (List ℕ) × List ℕ)
metadata_of None = None
metadata_of (Some x) = Some (borrowed x.0, x.1.now)

-- whether a byte stands there that is no line feed
abbrev pub is_no_newline : Option ℕ → Bool
is_no_newline None = false
is_no_newline (Some c) = not (c == 10)

-- whether a space stands here, and behind it a character that doesn't end the line
abbrev pub has_end : List ℕ → Bool
has_end [] = false
has_end (space ∷ rest) = space == 32 && is_no_newline (decoded rest).char

-- a version of these parts
abbrev pub version_by : ℕ → ℕ → ℕ → List ℕ → Option (List ℕ) → Version
version_by major minor patch flags metadata = record {
  major = major;
  minor = minor;
  patch = patch;
  release_flags = flags;
  build_metadata = metadata;
}

-- the version that these parts are, where a text of a version may end here
abbrev pub spelled_last : ℕ → ℕ → ℕ → List ℕ → Option (List ℕ) × List ℕ → Option Version
spelled_last major minor patch flags end = if has_end end.1 then Some (version_by major minor patch flags end.0)
    else None

-- the version that these numbers are, with the flags and the metadata that follow
unfoldable pub spelled_after : ℕ → ℕ → ℕ → List ℕ → Option Version
spelled_after major minor patch rest =
    option_and_then (spelled_last major minor patch (take (flags_len rest) rest))
    (metadata_front (drop (flags_len rest) rest))

-- the version that some bytes begin with
unfoldable pub spelled : List ℕ → Option Version
spelled bytes = option_and_then
    (λ major. option_and_then (λ minor. option_and_then (λ patch. spelled_after major.0 minor.0 patch.0 patch.1)
    (short_front minor.1)) (minor_front major.1)) (major_front bytes)

-- a version by its parts among the bytes
abbrev pub version_of : Spelling → Version
version_of s = version_by s.major s.minor s.patch s.flags.now (borrowed s.metadata)

-- the version that stands first, by the place
pub record IsFirstVersion (bytes : List ℕ) (v : Version) : Type 0 where
  pub place : ℕ
  pub here : spelled (drop place bytes) ≡ Some v
  pub before : (k : ℕ) → k < place → spelled (drop k bytes) ≡ None
