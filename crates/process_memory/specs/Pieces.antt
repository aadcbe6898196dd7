-- The pieces of memory that objects hold.
use Rattle.std.specs.Prelude.{ℕ, ◌-◌, nat_le, nat_lt, Option, Some, None, List, drop, length, if◌then◌else◌}
use Rattle.process_memory.specs.declared.part.Piece.{Piece}
use Rattle.process_memory.specs.Memory.{Region}

-- a piece of memory that was handed in
abbrev pub region_of : Piece → Region
region_of p = (p.start, p.bytes.items)

-- the bytes of a piece from an address on, if it holds that address
abbrev pub run_in : Region → ℕ → Option (List ℕ)
run_in p a = if nat_le p.0 a then (if nat_lt (a - p.0) (length p.1) then Some (drop (a - p.0) p.1) else None) else None
