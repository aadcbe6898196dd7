-- The first bytes of what may have many. That they end where addresses do is this project's rule.
use Rattle.std.specs.Prelude.{ℕ, ◌+◌, ◌-◌, ◌^◌, nat_le, if◌then◌else◌, Option, List, Result, Ok, Err, option_map, Vec}
use Rattle.std.specs.Global.{Global}
use Rattle.process_memory.specs.Memory.{Found, Memory, record_at}
use Rattle.process_memory.specs.Memory.Fault.{Missing}

-- so many bytes at an address, or the range that isn't in memory
unfoldable pub front_at : Memory → ℕ → ℕ → Found (List ℕ)
front_at m a n = if nat_le (a + n) (2 ^ 64) then record_at m a n else Err (Missing (2 ^ 64 - 1) n)

-- ---- as it is read

-- a result with the bytes that were copied, where they are in memory
abbrev pub items_or_none : {E : Type 0} → Result (Option (Vec ℕ Global)) E → Result (Option (List ℕ)) E
items_or_none (Ok bytes) = Ok (option_map (λ (v : Vec ℕ Global). v.items) bytes)
items_or_none (Err e) = Err e
