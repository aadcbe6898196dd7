-- Counts that are kept in a u64, whose last number is the end.
use Rattle.std.specs.Prelude.{ℕ, ◌+◌, ◌-◌, ◌^◌, ◌≤◌, min}

-- the last number of a u64, at which a count stays
abbrev pub last_count : ℕ
last_count = 2 ^ 64 - 1

-- a count that is kept in a u64 grows by so many
abbrev pub count_after : ℕ → ℕ → ℕ
count_after before more = min (before + more) last_count

-- a count that is kept in a u64 rose, or stands at its end
abbrev pub Rose : ℕ → ℕ → Type 0
Rose before now = count_after before 1 ≤ now
