-- Which versions can be written for a layout. A process tells its version by CPython's number (PY_VERSION_HEX), whose
-- low byte has a release's level and serial number; so a version that no such number tells can't be written. The number
-- keeps no zeros that stand in front of a serial number, so the version that is told has none.
use Rattle.std.specs.Prelude.{◌≡◌, ℕ, ◌+◌, ◌*◌, ◌-◌, ◌<◌, ◌≤◌, ◌⊎◌, ◌==◌, ◌&&◌, if◌then◌else◌, Option, Some, None}
use Rattle.std.specs.Prelude.{option_map, IsSome, List, [], ◌∷◌, ◌++◌, codes, replicate}
use Rattle.std.specs.Char.{is_ascii_digit}
use Rattle.std.specs.Fmt.{decimal}
use Rattle.std.specs.Option.{unwrap_or}
use Rattle.std.specs.Int.{is_in_range}
use Rattle.elf64_core.specs.declared.header.Machine.{Machine}
use Rattle.py_fields.specs.declared.version.Version.{Version}
use Rattle.py_fields.specs.Offsets.{tstate_current_offset}
use Rattle.py_fields.specs.declared.layout.Layout.{Layout}
use Rattle.py_fields.specs.declared.layout.Lock.TheVariants.{Runtime}
use Rattle.py_fields.specs.Sound.{Covers}

-- ---- the flags of a version

-- flags of a release that isn't final: letters, and a serial number below 16, perhaps with zeros in front; the byte has
-- the level in its high half and the serial number in its low half
pub record IsPreFinal (letters : List ℕ) (level : ℕ) (flags : List ℕ) (byte : ℕ) : Type 0 where
  pub serial : ℕ
  pub small : serial < 16
  pub zeros : ℕ
  pub flags_are : flags ≡ letters ++ (replicate zeros 48 ++ decimal serial)
  pub byte_is : byte ≡ 16 * level + serial

-- the byte of flags: 0xF0 for a final release, which has none
abbrev pub IsReleaseByte : List ℕ → ℕ → Type 0
IsReleaseByte flags byte = ((flags ≡ []) × (byte ≡ 0xF0))
    ⊎ IsPreFinal (codes "a") 10 flags byte ⊎ IsPreFinal (codes "b") 11 flags byte
    ⊎ IsPreFinal (codes "rc") 12 flags byte

-- some byte of PY_VERSION_HEX has these flags
abbrev pub HasReleaseByte : List ℕ → Type 0
HasReleaseByte flags = (byte : ℕ) × IsReleaseByte flags byte

-- ---- the version that is told

-- digits without the zeros in front of the last one
abbrev pub plain_digits : List ℕ → List ℕ
plain_digits [] = []
plain_digits (d ∷ []) = d ∷ []
plain_digits (d ∷ e ∷ rest) = if d == 48 then plain_digits (e ∷ rest) else (d ∷ e ∷ rest)

-- flags without the zeros in front of their number
abbrev pub plain_flags : List ℕ → List ℕ
plain_flags [] = []
plain_flags (c ∷ rest) = if is_ascii_digit c then plain_digits (c ∷ rest) else (c ∷ plain_flags rest)

-- the version that a process tells of which this one is written: as it is, its flags without such zeros
abbrev pub told_version : Version → Version
told_version v = record v { release_flags = plain_flags v.release_flags }

-- ---- how the byte is found

-- a serial number below 16, with no zeros in front
abbrev pub short_serial : List ℕ → Option ℕ
short_serial [] = None
short_serial (ones ∷ []) = if is_in_range 48 57 ones then Some (ones - 48) else None
short_serial (tens ∷ ones ∷ []) = if tens == 49 && is_in_range 48 53 ones then Some (ones - 38) else None
short_serial (a ∷ b ∷ c ∷ rest) = None

-- a serial number below 16
abbrev pub serial_of : List ℕ → Option ℕ
serial_of digits = short_serial (plain_digits digits)

-- behind the letters of a level
abbrev pub byte_behind : ℕ → List ℕ → Option ℕ
byte_behind level digits = option_map (λ serial. 16 * level + serial) (serial_of digits)

-- the byte of a release candidate, by its flags behind the `r`
abbrev pub candidate_byte : List ℕ → Option ℕ
candidate_byte [] = None
candidate_byte (c ∷ rest) = if c == 99 then byte_behind 12 rest else None

-- the byte of flags, where there is one
abbrev pub release_byte : List ℕ → Option ℕ
release_byte [] = Some 0xF0
release_byte (c ∷ rest) = if c == 97 then byte_behind 10 rest else (if c == 98 then byte_behind 11 rest
    else (if c == 114 then candidate_byte rest else None))

-- ---- which versions

-- the numbers have a byte each, the flags have one, and there is no metadata
pub record IsNumbered (v : Version) : Type 0 where
  pub major : v.major ≤ 255
  pub minor : v.minor ≤ 255
  pub patch : v.patch ≤ 255
  pub flags : HasReleaseByte v.release_flags
  pub plain : v.build_metadata ≡ None

-- the number that tells a version
pub record IsNumberOf (v : Version) (number : ℕ) : Type 0 where
  pub byte : ℕ
  pub flags : IsReleaseByte v.release_flags byte
  pub parts : number ≡ ((v.major * 256 + v.minor) * 256 + v.patch) * 256 + byte

-- that number, by the byte that is found for the flags
unfoldable pub number_of : Version → ℕ
number_of v = ((v.major * 256 + v.minor) * 256 + v.patch) * 256 + unwrap_or (release_byte v.release_flags) 0

-- the layout is one of the version, the version has a number, and an owner has a place where it is named
pub record IsCovered (l : Layout) (v : Version) (machine : Machine) (owner : Option ℕ) : Type 0 where
  pub covers : Covers l v
  pub numbered : IsNumbered v
  pub lock : IsSome owner → l.lock ≡ Runtime → IsSome (tstate_current_offset machine v)
