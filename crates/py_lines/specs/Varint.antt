-- Numbers of several bytes, by CPython's `Objects/locations.md`: six bits of each byte, the lowest first,
-- and bit 6 set in each but the last. That a number has at most six bytes is this project's rule.
use Rattle.std.specs.Prelude.{ℕ, zero, suc, ◌+◌, ◌*◌, ◌/◌, ◌%◌, ◌==◌, Option, Some, None, List, [], ◌∷◌, if◌then◌else◌}
use Rattle.std.specs.Prelude.{option_map, ℤ, pos, neg_ℤ}
use Rattle.std.specs.Int.{bit_at}
use Rattle.py_lines.specs.declared.varint.Number.{Number}

-- a number with six more bits below it
abbrev pub with_low : ℕ → Number → Number
with_low byte high = record { value = byte % 64 + 64 * high.value; size = 1 + high.size }

-- the number that begins the bytes, if it ends within so many bytes
abbrev pub varint_within : ℕ → List ℕ → Option Number
varint_within zero bytes = None
varint_within (suc most) [] = None
varint_within (suc most) (byte ∷ bytes) =
    if bit_at byte 6 == 0
    then Some (record { value = byte % 64; size = 1 })
    else option_map (with_low byte) (varint_within most bytes)

-- the number that begins the bytes
unfoldable pub varint : List ℕ → Option Number
varint bytes = varint_within 6 bytes

-- a signed number: twice the magnitude, and one more where it is negative
abbrev pub signed_of : ℕ → ℤ
signed_of n = if n % 2 == 1 then neg_ℤ (pos (n / 2)) else pos (n / 2)
