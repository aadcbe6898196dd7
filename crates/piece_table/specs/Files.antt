-- Memory whose bytes stand in files, by ranges of addresses.
use Rattle.std.specs.Prelude.{◌≡◌, ◌⊎◌, ℕ, ◌+◌, ◌<◌, ◌≤◌, List, [], length, map, take, drop, slice_index_or}
use Rattle.process_memory.specs.Memory.{Region}
use Rattle.piece_table.specs.Places.{IsBounded}
use Rattle.piece_table.specs.declared.table.FileRange.{FileRange}

-- the bytes of the file of a number
abbrev pub file_bytes : List (List ℕ) → ℕ → List ℕ
file_bytes files file = slice_index_or files file []

-- the piece of memory that a range is
abbrev pub region_in : List (List ℕ) → FileRange → Region
region_in files f = (f.range.start, take f.range.len (drop f.range.offset (file_bytes files f.file)))

-- the pieces of memory that ranges are, in order
abbrev pub regions_in : List (List ℕ) → List FileRange → List Region
regions_in files ranges = map (region_in files) ranges

-- a range whose bytes a file has
pub record IsInFile (files : List (List ℕ)) (f : FileRange) : Type 0 where
  pub known : f.file < length files
  pub inside : (f.range.len ≡ 0) ⊎ (f.range.offset + f.range.len ≤ length (file_bytes files f.file))
  pub fits : IsBounded f
