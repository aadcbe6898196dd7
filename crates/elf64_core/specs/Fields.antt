-- Numbers at offsets of a record, the lowest byte first.
use Rattle.std.specs.Prelude.{ℕ, ◌+◌, List, slice_range, slice_index}
use Rattle.std.specs.Int.{w64, w32, w16, from_le_bytes}

-- the number of the 8 bytes at an offset of a record
unfoldable pub u64_in : List ℕ → ℕ → ℕ
u64_in bytes at = from_le_bytes w64 (slice_range bytes at (at + 8))

-- the number of the 4 bytes there
unfoldable pub u32_in : List ℕ → ℕ → ℕ
u32_in bytes at = from_le_bytes w32 (slice_range bytes at (at + 4))

-- the number of the 2 bytes there
unfoldable pub u16_in : List ℕ → ℕ → ℕ
u16_in bytes at = from_le_bytes w16 (slice_range bytes at (at + 2))

-- the byte there
unfoldable pub u8_in : List ℕ → ℕ → ℕ
u8_in bytes at = slice_index bytes at
