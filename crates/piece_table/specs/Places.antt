-- Where what stands at an address is found: in which file, and where there, by the first of some ranges that holds
-- the address. This is the project's own rule.
use Rattle.std.specs.Prelude.{◌≡◌, ◌≢◌, ℕ, ◌+◌, ◌-◌, ◌<◌, ◌≤◌, ◌^◌, true, All, List, [], ◌∷◌, length, map, Option, Some}
use Rattle.std.specs.Prelude.{option_map, slice_get}
use Rattle.elf64_core.specs.declared.span_table.TableEntry.{TableEntry}
use Rattle.piece_table.specs.Laid.{AreLaid}
use Rattle.piece_table.specs.Overlays.{IsBoundedRange, IsPiece, IsPieceOf, found_by, owner_of, spans}
use Rattle.piece_table.specs.declared.overlay.Owned.{Owned}
use Rattle.piece_table.specs.declared.table.FileRange.{FileRange}

-- the addresses of a range of a file
abbrev pub range_of_file : FileRange → TableEntry
range_of_file f = f.range

-- the ranges without their files
abbrev pub addresses_of : List FileRange → List TableEntry
addresses_of ranges = map range_of_file ranges

-- the number of the file that a range is of
abbrev pub file_of_range : FileRange → ℕ
file_of_range f = f.file

-- in which file, and where there, what stands at an address is found by a range that holds it
abbrev pub place_by : ℕ → FileRange → ℕ × ℕ
place_by addr f = (f.file, found_by addr f.range)

-- the same by the first range that holds the address, if any does
abbrev pub stands_at : List FileRange → ℕ → Option (ℕ × ℕ)
stands_at ranges addr = option_map (place_by addr) (slice_get ranges (owner_of (addresses_of ranges) addr))

-- the longest run of at most so many addresses from one on of which each is some range's, and what stands there
-- follows each other in one file: which file, where the first stands there, and how many there are
pub record IsRun (ranges : List FileRange) (addr len file start size : ℕ) : Type 0 where
  pub some : 0 < size
  pub short : size ≤ len
  pub each : (k : ℕ) → k < size → stands_at ranges (addr + k) ≡ Some (file, start + k)
  pub longest : size < len → stands_at ranges (addr + size) ≢ Some (file, start + size)

-- some of the addresses from one on, of which what stands there follows each other in one file
pub record IsStretch (ranges : List FileRange) (addr most file start size : ℕ) : Type 0 where
  pub some : 0 < size
  pub short : size ≤ most
  pub each : (k : ℕ) → k < size → stands_at ranges (addr + k) ≡ Some (file, start + k)
  pub ends : addr + size ≤ 2 ^ 64 - 1
  pub found_ends : start + size ≤ 2 ^ 64 - 1

-- so many addresses from one on are the rest of the piece that holds it
pub record IsRest (ranges : List TableEntry) (addr size : ℕ) : Type 0 where
  pub piece : TableEntry
  pub longest : IsPiece ranges piece
  pub holds : spans addr piece ≡ true
  pub ends : addr + size ≡ piece.start + piece.len

-- a range that ends at 2^64 - 1 at most, as does where it is found, unless it is empty
abbrev pub IsBounded : FileRange → Type 0
IsBounded f = IsBoundedRange f.range

-- a longest interval of addresses that are one range's, with the file of the range
pub record IsFilePiece (ranges : List FileRange) (piece : FileRange) : Type 0 where
  pub owner : ℕ
  pub is : IsPieceOf (addresses_of ranges) owner piece.range
  pub file_is : option_map file_of_range (slice_get ranges owner) ≡ Some piece.file
  pub fits : IsBounded piece

-- pieces, each with the number of its range
abbrev pub owned_by : List TableEntry → List ℕ → List Owned
owned_by [] owners = []
owned_by (piece ∷ pieces) [] = []
owned_by (piece ∷ pieces) (owner ∷ owners) = (record { entry = piece; owner = owner }) ∷ owned_by pieces owners

-- what is kept of ranges for look-ups: their pieces, and the number of the range of each
pub record IsKept (ranges : List FileRange) (pieces : List TableEntry) (owners : List ℕ) : Type 0 where
  pub fit : All IsBounded ranges
  pub counted : length owners ≡ length pieces
  pub laid : AreLaid (addresses_of ranges) (owned_by pieces owners)
