-- Where Python's own code is mapped: of the program, and of its library (this project's own rule).
use Rattle.std.specs.Prelude.{ℕ, ◌-◌, nat_le, nat_lt, ◌&&◌, ◌||◌, Bool, false, Option, Some, None}
use Rattle.paired_stacks.specs.declared.code.CodeRange.{CodeRange}
use Rattle.paired_stacks.specs.declared.code.OwnCode.{OwnCode}

-- an address is one of a range: less than its size behind its first one
abbrev pub is_in : Option CodeRange → ℕ → Bool
is_in (Some range) addr = nat_le range.addr addr && nat_lt (addr - range.addr) range.size
is_in None addr = false

-- whether an address is in the code of Python's program or of its library
abbrev pub is_own : OwnCode → ℕ → Bool
is_own own addr = is_in own.program addr || is_in own.library addr
