-- Views of the bytes of a file in memory.
use Rattle.std.specs.Prelude.{ℕ, ◌+◌, ◌-◌, ◌≤◌, ◌^◌, List, length, max, slice_range}

-- some bytes, and from where to where in them a view goes
pub record Mapped : Type 0 where
  pub bytes : List ℕ
  pub start : ℕ
  pub end : ℕ

-- the view of all bytes; of none it goes to 1 all the same
abbrev pub whole_view : List ℕ → Mapped
whole_view bytes = record { bytes = bytes; start = 0; end = max 1 (length bytes) }

-- what a view shows: nothing where it is reversed, or where there are no bytes
abbrev pub shown_bytes : Mapped → List ℕ
shown_bytes view = slice_range view.bytes view.start view.end

-- a range that a view can be narrowed by: counted from the view's start, its ends don't pass 2^64 - 1, and
-- the second doesn't pass the view's
pub record IsInView (view : Mapped) (start end : ℕ) : Type 0 where
  pub start_fits : view.start + start ≤ 2 ^ 64 - 1
  pub end_fits : view.start + end ≤ 2 ^ 64 - 1
  pub within : view.start + end ≤ view.end

-- the view of the same bytes that is narrowed by a range
abbrev pub narrowed : Mapped → (start end : ℕ) → Mapped
narrowed view start end = record { bytes = view.bytes; start = view.start + start; end = view.start + end }
