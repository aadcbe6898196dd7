-- The numbers of lines, as they are shown.
use Rattle.std.specs.Prelude.{ℕ, ℤ, pos, negsuc}

-- a line's number as it is shown: from 1 on, and 0 where none is known. What a line table sums up to may be below 1,
-- and no line of a file has such a number
abbrev pub shown_line : ℤ → ℕ
shown_line (pos n) = n
shown_line (negsuc n) = 0
