-- Objects: lists of bytes of a stated length, zeros but for what is written at offsets.
use Rattle.std.specs.Prelude.{ℕ, ◌+◌, ◌-◌, Option, Some, None, List, [], ◌∷◌, ◌++◌, length}
use Rattle.std.proofs.Math.ListN.{take, drop, replicate}
use Rattle.std.specs.Int.{w16, w32, w64, to_le_bytes}
use Rattle.py_fields.specs.Places.{Place}
use Rattle.object_builder.specs.Sizes.{rounded}

-- what is written
pub data Value : Type 0 where
  U64 : (n : ℕ) → Value
  U32 : (n : ℕ) → Value
  U16 : (n : ℕ) → Value
  U8 : (n : ℕ) → Value
  Bytes : (bytes : List ℕ) → Value

-- how many bytes a value takes
abbrev pub len_of : Value → ℕ
len_of (U64 n) = 8
len_of (U32 n) = 4
len_of (U16 n) = 2
len_of (U8 n) = 1
len_of (Bytes bytes) = length bytes

-- the bytes of a value, the lowest byte of a number first
unfoldable pub bytes_of : Value → List ℕ
bytes_of (U64 n) = to_le_bytes w64 n
bytes_of (U32 n) = to_le_bytes w32 n
bytes_of (U16 n) = to_le_bytes w16 n
bytes_of (U8 n) = n ∷ []
bytes_of (Bytes bytes) = bytes

-- a write at an offset
pub record Write : Type 0 where
  pub at : ℕ
  pub value : Value

-- bytes put_at over others
unfoldable pub put_at : ℕ → List ℕ → List ℕ → List ℕ
put_at at xs bytes = take at bytes ++ (xs ++ drop (at + length xs) bytes)

-- `n` bytes with some writes
unfoldable pub object : ℕ → List Write → List ℕ
object n [] = replicate n 0
object n (w ∷ ws) = put_at w.at (bytes_of w.value) (object n ws)

-- where a write's bytes stand in its object, and how many there are
abbrev pub write_place : Write → Place
write_place w = (w.at, len_of w.value)

-- a write that may be absent
abbrev pub optional_write : Option ℕ → Value → Write
optional_write None v = record { at = 0; value = Bytes [] }
optional_write (Some at) v = record { at = at; value = v }

-- the bytes at a place of a record, and their number
abbrev pub part : ℕ → ℕ → List ℕ → List ℕ
part at n bytes = take n (drop at bytes)

-- filled up to a multiple of 16
unfoldable pub aligned : List ℕ → List ℕ
aligned bytes = bytes ++ replicate (rounded (length bytes) - length bytes) 0
