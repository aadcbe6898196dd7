-- Tables of the addresses of maps. A table has the addresses below 2^64 - 1; of those from there on a map that
-- has any has the first ones.
use Rattle.std.specs.Prelude.{ℕ, ◌-◌, ◌^◌, nat_lt, min, max, if◌then◌else◌, Bool, List, fold}
use Rattle.std.specs.List.{list_any}
use Rattle.piece_table.specs.Overlays.{spans}
use Rattle.piece_table.specs.Places.{addresses_of}
use Rattle.piece_table.specs.declared.table.FileRange.{FileRange}
use Rattle.image_memory.specs.declared.maps.CoreMapRange.{CoreMapRange}

-- the last address, 2^64 - 1
abbrev pub last_addr : ℕ
last_addr = 2 ^ 64 - 1

-- the addresses of a map below 2^64 - 1
abbrev pub map_range_of : CoreMapRange → FileRange
map_range_of m = record {
  range = record {
    start = m.segment.addr;
    len = min m.segment.mem_size (last_addr - m.segment.addr);
    offset = 0;
  };
  file = 0;
}

-- how many of those from there on lie in a map
abbrev pub past_of : CoreMapRange → ℕ
past_of m = m.segment.mem_size - (last_addr - m.segment.addr)

-- and how many lie in one of some maps
abbrev pub past_last : List CoreMapRange → ℕ
past_last maps = fold (λ past m. max (past_of m) past) 0 maps

-- the addresses of a table: those of its ranges, and so many from 2^64 - 1 on
pub record MapSpans : Type 0 where
  pub table : List FileRange
  pub past : ℕ

-- the test of addresses that they are
abbrev pub tests : MapSpans → ℕ → Bool
tests m addr =
    if nat_lt addr last_addr then list_any (spans addr) (addresses_of m.table) else nat_lt (addr - last_addr) m.past
