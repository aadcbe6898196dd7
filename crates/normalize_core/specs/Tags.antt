-- The tags of BPF programs, as they are written. That `+` may stand for a first digit is how Rust's library reads
-- numbers, by which blazesym reads a tag.
use Rattle.std.specs.Prelude.{◌≡◌, ℕ, ◌<◌, All, ◌+◌, ◌*◌, ◌/◌, ◌%◌, ◌==◌, nat_lt, false, if◌then◌else◌, List, [], ◌∷◌}
use Rattle.std.specs.Prelude.{length, Option, Some, None}
use Rattle.std.specs.Char.{digit_value}
use Rattle.std.specs.Fmt.{digit_glyph}

-- the digits of a byte: two, in lower case
abbrev pub tag_text : List ℕ → List ℕ
tag_text [] = []
tag_text (byte ∷ bytes) = digit_glyph false (byte / 16) ∷ (digit_glyph false (byte % 16) ∷ tag_text bytes)

-- a hexadecimal digit of either case
abbrev pub hex_value : ℕ → Option ℕ
hex_value byte = if nat_lt (digit_value byte) 16 then Some (digit_value byte) else None

-- two digits, of which the first may be 0
abbrev pub joined_digits : Option ℕ → Option ℕ → Option ℕ
joined_digits None low = None
joined_digits (Some high) None = None
joined_digits (Some high) (Some low) = Some (16 * high + low)

-- `+` in place of the first of two digits says 0
abbrev pub first_value : ℕ → Option ℕ
first_value byte = if byte == 43 then Some 0 else hex_value byte

-- the byte of two digits
abbrev pub pair_value : ℕ → ℕ → Option ℕ
pair_value first second = joined_digits (first_value first) (hex_value second)

-- a byte before others; none where there is no byte
abbrev pub before : Option ℕ → Option (List ℕ) → Option (List ℕ)
before None bytes = None
before (Some byte) None = None
before (Some byte) (Some bytes) = Some (byte ∷ bytes)

-- the bytes of pairs of digits
abbrev pub pairs_of : List ℕ → Option (List ℕ)
pairs_of [] = Some []
pairs_of (digit ∷ []) = None
pairs_of (first ∷ (second ∷ text)) = before (pair_value first second) (pairs_of text)

-- the bytes of a tag: eight pairs
abbrev pub tag_of : List ℕ → Option (List ℕ)
tag_of text = if length text == 16 then pairs_of text else None

-- a tag of eight bytes that is printed reads back as itself
abbrev pub PrintedReadsBack : Type 0
PrintedReadsBack = (tag : List ℕ) → length tag ≡ 8 → All (λ byte. byte < 256) tag → tag_of (tag_text tag) ≡ Some tag
