-- The file that one address lies in, and where in it.
use Rattle.std.specs.Prelude.{ℕ, ◌^◌, nat_lt, false, if◌then◌else◌, List, Option, Some, None, Ok, Err, option_map}
use Rattle.maps_text.specs.declared.entry.MapsEntry.{MapsEntry}
use Rattle.normalize_core.specs.declared.file_offsets.FileOffset.{FileOffset}
use Rattle.normalize_core.specs.Targets.{Target, target_at, normal_value_at}

-- a place in the file of a target, where the target is a file and the place doesn't pass 2^64 - 1
abbrev pub offset_under : Target → ℕ → Option (List ℕ × ℕ)
offset_under (Err reason) place = None
offset_under (Ok path) place = if nat_lt place (2 ^ 64) then Some (path, place) else None

-- the path of the file that an address is reported under, and the place there that it is reported as
abbrev pub file_offset_at : List MapsEntry → ℕ → Option (List ℕ × ℕ)
file_offset_at entries addr = offset_under (target_at entries false addr) (normal_value_at entries addr)

-- a place that borrows its path, as a path and a number
abbrev pub file_offset_shown : Option FileOffset → Option (List ℕ × ℕ)
file_offset_shown o = option_map (λ (f : FileOffset). (f.path.now, f.offset)) o
