-- Mappings as ranges of addresses, each under its number, as they are looked up.
use Rattle.std.specs.Prelude.{ℕ, ◌+◌, ◌-◌, List, [], ◌∷◌}
use Rattle.piece_table.specs.declared.table.FileRange.{FileRange}
use Rattle.core_unwind.specs.declared.place.Mapping.{Mapping}

-- a mapping as a range of addresses, under its number
abbrev pub range_of : (number : ℕ) → Mapping → FileRange
range_of number m = record {
  range = record { start = m.start; len = m.end - m.start; offset = 0 };
  file = number;
}

-- those of mappings that are counted from a number on
abbrev pub ranges_from : (number : ℕ) → List Mapping → List FileRange
ranges_from number [] = []
ranges_from number (m ∷ ms) = range_of number m ∷ ranges_from (number + 1) ms
