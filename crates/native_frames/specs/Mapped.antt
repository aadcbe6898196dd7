-- The files that a process had mapped, and the bytes of those that are at hand.
use Rattle.std.specs.Prelude.{◌≡◌, ℕ, ◌+◌, ◌-◌, ◌^◌, min, List, [], ◌∷◌, ◌++◌, length, map, Option, Some, None, codes}
use Rattle.std.specs.Prelude.{option_copied, option_map}
use Rattle.elf64_core.specs.Notes.{Noted}
use Rattle.image_memory.specs.Images.{Pushed, first_under}
use Rattle.image_memory.specs.Mmap.{shown_bytes}
use Rattle.core_unwind.specs.declared.place.Mapping.{Mapping}
use Rattle.native_frames.specs.Tables.{Row, RowsSay}
use Rattle.native_frames.specs.Vdsos.{IsVdsoIn}

-- a mapping: its addresses, where the first stands in the file, the file's number, and its bytes if it is at hand
pub record MappingShown : Type 0 where
  pub start : ℕ
  pub end : ℕ
  pub offset : ℕ
  pub file : ℕ
  pub bytes : Option (List ℕ)

-- a mapping in plain terms
abbrev pub mapping_shown : Mapping → MappingShown
mapping_shown m = record {
  start = m.start;
  end = m.end;
  offset = m.offset;
  file = m.file;
  bytes = option_copied m.bytes;
}

-- the bytes of the file that was handed in under a path
abbrev pub bytes_under : Pushed → List ℕ → Option (List ℕ)
bytes_under images path = option_map shown_bytes (first_under path images)

-- the mapping of an entry of a file table, with its file's number, and the bytes handed in under its path
abbrev pub row_mapping : Pushed → (number : ℕ) → Row → MappingShown
row_mapping images number row = record {
  start = row.start;
  end = row.end;
  offset = row.offset;
  file = number;
  bytes = bytes_under images row.name;
}

-- those of entries that are counted from a number on
abbrev pub mappings_from : Pushed → (number : ℕ) → List Row → List MappingShown
mappings_from images number [] = []
mappings_from images number (row ∷ rows) = row_mapping images number row ∷ mappings_from images (number + 1) rows

-- the paths of entries, in order
abbrev pub names_of : List Row → List (List ℕ)
names_of rows = map (λ (row : Row). row.name) rows

-- the mapping of the vdso under a file number, where the core has it
abbrev pub vdso_mappings : (number : ℕ) → Option (ℕ × List ℕ) → List MappingShown
vdso_mappings number None = []
vdso_mappings number (Some v) = record {
  start = v.0;
  end = min (v.0 + length v.1) (2 ^ 64 - 1);
  offset = 0;
  file = number;
  bytes = Some v.1;
} ∷ []

-- the name that stands for the vdso's path, where the core has it
abbrev pub vdso_names : Option (ℕ × List ℕ) → List (List ℕ)
vdso_names None = []
vdso_names (Some v) = codes "[vdso]" ∷ []

-- the paths of the files, and where they were mapped: the entries of the file tables in order, and behind them the vdso
pub record AreMapped (core : List ℕ) (notes : List Noted) (images : Pushed) (files : List (List ℕ))
    (mappings : List Mapping) : Type 0 where
  pub rows : List Row
  pub rows_say : RowsSay notes rows
  pub vdso : Option (ℕ × List ℕ)
  pub is_vdso : IsVdsoIn core notes vdso
  pub names : files ≡ names_of rows ++ vdso_names vdso
  pub mapped : map mapping_shown mappings ≡ mappings_from images 0 rows ++ vdso_mappings (length rows) vdso
