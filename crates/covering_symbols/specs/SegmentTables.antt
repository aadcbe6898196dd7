-- The segments of a file by the places of their bytes in it.
use Rattle.std.specs.Prelude.{ℕ, ◌-◌, ◌^◌, min, nat_eq, if◌then◌else◌, List, map}
use Rattle.std.specs.List.{enumerate_from}
use Rattle.elf64_core.specs.Header.{load_kind}
use Rattle.elf64_core.specs.declared.segment.Segment.{Segment}
use Rattle.piece_table.specs.declared.table.FileRange.{FileRange}

-- how many bytes a load segment has in the file at places below 2^64 - 1; another segment has none there
abbrev pub bytes_held : Segment → ℕ
bytes_held segment =
    if nat_eq segment.kind load_kind then min segment.file_size (2 ^ 64 - 1 - segment.offset) else 0

-- the places that a segment's bytes have in the file, under its number
abbrev pub range_of_segment : ℕ × Segment → FileRange
range_of_segment n = record {
  range = record { start = n.1.offset; len = bytes_held n.1; offset = 0 };
  file = n.0;
}

-- those of all segments, counted from a number on
abbrev pub segment_ranges : ℕ → List Segment → List FileRange
segment_ranges k segments = map range_of_segment (enumerate_from k segments)
