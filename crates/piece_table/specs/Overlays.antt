-- Ranges of addresses in an order of preference: an address is that of the first range that holds it. The pieces
-- of such ranges are the longest intervals of addresses that are one range's. This is the project's own rule.
use Rattle.std.specs.Prelude.{◌≡◌, ◌≢◌, ◌⊎◌, ℕ, ◌+◌, ◌-◌, ◌<◌, ◌≤◌, ◌^◌, nat_le, nat_lt, ◌&&◌, true, All, Bool, List}
use Rattle.std.specs.Prelude.{length, Some, option_map, slice_get}
use Rattle.std.specs.List.{AllPairs, list_any, position_or_len}
use Rattle.elf64_core.specs.SpanTables.{StandsBefore}
use Rattle.elf64_core.specs.declared.span_table.TableEntry.{TableEntry}

-- whether a range holds an address
abbrev pub spans : ℕ → TableEntry → Bool
spans addr range = nat_le range.start addr && nat_lt (addr - range.start) range.len

-- the number of the first range that holds an address, and how many ranges there are where none does
abbrev pub owner_of : List TableEntry → ℕ → ℕ
owner_of ranges addr = position_or_len (spans addr) ranges

-- where what stands at an address is found, by a range that holds it
abbrev pub found_by : ℕ → TableEntry → ℕ
found_by addr range = range.offset + (addr - range.start)

-- a range that ends at 2^64 - 1 at most, as does where it is found, unless it is empty
pub record IsBoundedRange (range : TableEntry) : Type 0 where
  pub ends : range.start + range.len ≤ 2 ^ 64 - 1
  pub found_ends : (range.len ≡ 0) ⊎ (range.offset + range.len ≤ 2 ^ 64 - 1)

-- a longest interval of addresses that are one range's, with where they are found
pub record IsPieceOf (ranges : List TableEntry) (owner : ℕ) (piece : TableEntry) : Type 0 where
  pub owned : owner < length ranges
  pub some : 0 < piece.len
  pub each : (addr : ℕ) → piece.start ≤ addr → addr < piece.start + piece.len → owner_of ranges addr ≡ owner
  pub begins : (piece.start ≡ 0) ⊎ (owner_of ranges (piece.start - 1) ≢ owner)
  pub ends : owner_of ranges (piece.start + piece.len) ≢ owner
  pub found : option_map (found_by piece.start) (slice_get ranges owner) ≡ Some piece.offset

-- a piece is the part of one range that no earlier range has
abbrev pub IsPiece : (ranges : List TableEntry) → TableEntry → Type 0
IsPiece ranges piece = (owner : ℕ) × IsPieceOf ranges owner piece

-- all of these intervals, in ascending order
pub record ArePieces (ranges pieces : List TableEntry) : Type 0 where
  pub each : All (IsPiece ranges) pieces
  pub ascend : AllPairs StandsBefore pieces
  pub whole : (addr : ℕ) → owner_of ranges addr < length ranges → list_any (spans addr) pieces ≡ true
