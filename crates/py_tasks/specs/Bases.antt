-- The types that a type derives from: each names the first of them (`tp_base`, Include/cpython/object.h).
use Rattle.std.specs.Prelude.{ℕ, zero, suc, ◌+◌, nat_eq, Bool, true, false, Ok, if◌then◌else◌}
use Rattle.process_memory.specs.Memory.{Memory, Found, ◌>>=◌, word_at}

-- whether that is known by a type itself; 0 is none
abbrev pub unless_known : ℕ → ℕ → Found Bool → Found Bool
unless_known class sought rest =
    if nat_eq class 0 then Ok false
    else if nat_eq sought 0 then Ok false
    else if nat_eq class sought then Ok true
    else rest

-- whether a type is the one that is sought, or leads to it by so many bases at most
unfoldable pub leads_at : ℕ → Memory → ℕ → ℕ → ℕ → Found Bool
leads_at base m class sought zero = unless_known class sought (Ok false)
leads_at base m class sought (suc left) =
    unless_known class sought (word_at m (class + base) >>= (λ next. leads_at base m next sought left))
