-- Which class owns the rule by which an object is told as a text. A class inherits the function for it (`tp_str`) from
-- the class that it is based on (`tp_base`), where it has no `__str__` of its own (`inherit_slots`,
-- Objects/typeobject.c). That 64 classes on the way are passed is this project's rule.
use Rattle.std.specs.Prelude.{ℕ, zero, suc, ◌+◌, nat_eq, Option, Some, Ok, if◌then◌else◌}
use Rattle.process_memory.specs.Memory.{Found, Memory, ◌>>=◌, word_at}
use Rattle.py_exceptions.specs.declared.name.ClassPlaces.{ClassPlaces}
use Rattle.py_exceptions.specs.Faults.{found_or_none}

-- a class, where the next one has another function; else what is found from that one on
abbrev pub unless_other : ℕ → ℕ → ℕ → Found (Option ℕ) → Found (Option ℕ)
unless_other class own other rest = if nat_eq other own then rest else Ok (Some class)

-- a class, where it is based on none or on one with another function; else what is found from there on
abbrev pub owner_by_base : ClassPlaces → Memory → ℕ → ℕ → ℕ → Found (Option ℕ) → Found (Option ℕ)
owner_by_base p m class own next rest =
    if nat_eq next 0 then Ok (Some class)
    else (word_at m (next + p.to_str) >>= (λ other. unless_other class own other rest))

-- the last of some classes that have one function, of which so many are passed
unfoldable pub owner_from : ClassPlaces → Memory → ℕ → ℕ → ℕ → Found (Option ℕ)
owner_from p m class own zero = Ok (Some class)
owner_from p m class own (suc left) =
    word_at m (class + p.base) >>= (λ next. owner_by_base p m class own next (owner_from p m next own left))

-- the class that owns the text function of a class (`tp_str`)
unfoldable pub owner_found_at : ClassPlaces → Memory → ℕ → Found (Option ℕ)
owner_found_at p m class = word_at m (class + p.to_str) >>= (λ own. owner_from p m class own 64)

-- the class that owns the rule of a class, where all on the way is there
unfoldable pub owner_at : ClassPlaces → Memory → ℕ → Option ℕ
owner_at p m class = found_or_none (owner_found_at p m class)
