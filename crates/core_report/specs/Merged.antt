-- Which addresses are Python's in the process of a core.
use Rattle.std.specs.Prelude.{ℕ, ◌+◌, nat_le, nat_lt, ◌&&◌, ◌||◌, Bool, false, Option, Some, None}
use Rattle.py_process.specs.Facts.{Facts}

-- the image of a binary is mapped at an address
abbrev pub is_mapped_in : ℕ → Option Facts → Bool
is_mapped_in addr None = false
is_mapped_in addr (Some facts) = nat_le facts.addr addr && nat_lt addr (facts.addr + facts.size)

-- that of the program is, or that of Python's library
abbrev pub python_in : Option Facts → Option Facts → ℕ → Bool
python_in program library addr = is_mapped_in addr program || is_mapped_in addr library
