-- The row of an entry at an address.
use Rattle.std.specs.Prelude.{ℕ, ◌-◌, nat_lt, nat_le, ◌||◌, List, length, slice_range, if◌then◌else◌}
use Rattle.std.specs.Prelude.{Option, Some, None, Result}
use Rattle.frame_rows.specs.Answer.{IsRow}
use Rattle.frame_rows.specs.declared.program.RowError.{RowError}
use Rattle.frame_rows.specs.declared.row.Row.{Row}
use Rattle.frame_tables.specs.declared.record.Entry.{Entry}
use Rattle.frame_tables.specs.Records.{bytes_of}

-- how many rows can be remembered
abbrev pub most_rows : ℕ
most_rows = 64

-- what its instructions come to
abbrev pub IsEntryRow : List ℕ → Entry → ℕ → Result Row RowError → Type 0
IsEntryRow file entry address answer =
    IsRow entry.convention (bytes_of file entry.initial) (bytes_of file entry.own) entry.begin address most_rows answer

-- the bytes from one place up to another of two programs, one behind the other, where they are in one of them
abbrev pub between : (initial own : List ℕ) → (start end : ℕ) → Option (List ℕ)
between initial own start end =
    if nat_lt end start then None
    else if nat_le end (length initial) then Some (slice_range initial start end)
    else if nat_lt start (length initial) || nat_lt (length own) (end - length initial) then None
    else Some (slice_range own (start - length initial) (end - length initial))

-- those of an entry
abbrev pub expression_of : List ℕ → Entry → (start end : ℕ) → Option (List ℕ)
expression_of file entry start end = between (bytes_of file entry.initial) (bytes_of file entry.own) start end
