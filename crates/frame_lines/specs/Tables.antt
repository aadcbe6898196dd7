-- The bytes of a line table, which may be many. That they are fewer than 2^24, and end where addresses do, are this
-- project's rules.
use Rattle.std.specs.Prelude.{ℕ, ◌+◌, ◌^◌, ◌&&◌, nat_le, nat_lt, if◌then◌else◌, Option, None, option_map, List}
use Rattle.std.specs.Prelude.{Result, Ok, Err, Vec}
use Rattle.std.specs.Global.{Global}
use Rattle.elf64_core.specs.Fields.{u64_in}
use Rattle.process_memory.specs.Memory.{Found, Memory, bytes_at, record_at}
use Rattle.py_fields.specs.declared.layout.Layout.{Layout}

-- so many bytes at an address, where all of them are in memory
unfoldable pub many_at : Memory → ℕ → ℕ → Option (List ℕ)
many_at m a n = if nat_lt n (2 ^ 24) && nat_le (a + n) (2 ^ 64) then bytes_at m a n else None

-- the bytes of a line table, where its object can be read
abbrev pub table_by : Layout → Memory → ℕ → Found (List ℕ) → Option (List ℕ)
table_by l m a (Ok object) = many_at m (a + l.bytes.at) (u64_in object l.bytes.length)
table_by l m a (Err f) = None

-- the bytes of the bytes object at an address, where they are fewer than 2^24 and all in memory
unfoldable pub table_at : Layout → Memory → ℕ → Option (List ℕ)
table_at l m a = table_by l m a (record_at m a l.bytes.size)

-- ---- as it is read

-- the bytes that were copied, where there are some
abbrev pub items_of : Option (Vec ℕ Global) → Option (List ℕ)
items_of bytes = option_map (λ (v : Vec ℕ Global). v.items) bytes

-- a result with the bytes that were copied
abbrev pub items_or_none : {E : Type 0} → Result (Option (Vec ℕ Global)) E → Result (Option (List ℕ)) E
items_or_none (Ok bytes) = Ok (items_of bytes)
items_or_none (Err e) = Err e
