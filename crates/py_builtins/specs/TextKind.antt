-- How the characters of a text are coded, and which characters bytes code.
use Rattle.std.specs.Prelude.{◌≡◌, ℕ, ◌/◌, Bool, true, Option, Some, None, List, length, map, if◌then◌else◌, ◌&&◌}
use Rattle.std.specs.Prelude.{encode_utf8_all}
use Rattle.std.specs.List.{flat_map}
use Rattle.std.specs.Int.{Width, w16, w32, to_le_bytes, from_le_bytes}
use Rattle.std.specs.Simd.{first_chunks}
use Rattle.std.specs.Str.{chars, all_scalars, bytes_eq}
use Rattle.std.specs.Char.Escape.{encode_utf16}
use Rattle.std.specs.Char.Utf16.{utf16_lossy_chars}
use Rattle.py_builtins.specs.declared.coding.TextKind.{TextKind}
use Rattle.py_builtins.specs.declared.coding.TextKind.TheVariants.{Utf8, Latin1, Utf16, Utf32}

-- how many bytes a unit has, of which a text's length says the number
abbrev pub width : TextKind → ℕ
width Utf8 = 1
width Latin1 = 1
width Utf16 = 2
width Utf32 = 4

-- the bytes of characters. A unit's lowest byte is first; in UTF-16 a character below 0x1_0000 is one unit,
-- and each other one a pair of surrogates
unfoldable pub coded : TextKind → List ℕ → List ℕ
coded Utf8 cs = encode_utf8_all cs
coded Latin1 cs = cs
coded Utf16 cs = flat_map (to_le_bytes w16) (flat_map encode_utf16 cs)
coded Utf32 cs = flat_map (to_le_bytes w32) cs

-- the characters are scalar values, and the bytes are theirs
pub record IsCodingOf (k : TextKind) (cs bytes : List ℕ) : Type 0 where
  pub scalars : all_scalars cs ≡ true
  pub is : coded k cs ≡ bytes

-- the numbers of the groups of `n` bytes, the lowest byte of each first
abbrev pub numbers_of : Width → ℕ → List ℕ → List ℕ
numbers_of w n bytes = map (from_le_bytes w) (first_chunks n (length bytes / n) bytes)

-- what the characters are, if the bytes code any
abbrev pub read_as : TextKind → List ℕ → List ℕ
read_as Utf8 bytes = chars bytes
read_as Latin1 bytes = bytes
read_as Utf16 bytes = utf16_lossy_chars (numbers_of w16 2 bytes)
read_as Utf32 bytes = numbers_of w32 4 bytes

-- whether these bytes are the coding of these characters
abbrev pub is_coding_of : TextKind → List ℕ → List ℕ → Bool
is_coding_of k cs bytes = all_scalars cs && bytes_eq (coded k cs) bytes

-- the characters whose coding the bytes are, if there are any
unfoldable pub decoded : TextKind → List ℕ → Option (List ℕ)
decoded k bytes = if is_coding_of k (read_as k bytes) bytes then Some (read_as k bytes) else None
