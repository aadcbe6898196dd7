-- Where an address lies: what it is reported under, and as which number.
use Rattle.std.specs.Prelude.{ℕ, ◌+◌, ◌-◌, ◌^◌, nat_le, nat_lt, Bool, true, false, not, ◌&&◌, if◌then◌else◌, List}
use Rattle.std.specs.Prelude.{Option, Some, None, Result, Ok, Err}
use Rattle.std.specs.List.{find}
use Rattle.std.specs.Str.{bytes_eq}
use Rattle.maps_text.specs.declared.entry.EntryPath.{EntryPath}
use Rattle.maps_text.specs.declared.entry.MapsEntry.{MapsEntry}
use Rattle.maps_text.specs.declared.entry.PathName.{PathName}
use Rattle.maps_text.specs.declared.entry.PathName.TheVariants.{Path, Component}
use Rattle.normalize_core.specs.declared.meta.Reason.{Reason}
use Rattle.normalize_core.specs.declared.meta.Reason.TheVariants.{Unmapped, MissingComponent, Unsupported}

-- an entry's range holds an address
abbrev pub covers : ℕ → MapsEntry → Bool
covers addr entry = nat_le entry.range.start addr && nat_lt addr entry.range.end

-- the entry whose range holds an address; of entries that ascend and are disjoint no other one does
abbrev pub covering : List MapsEntry → ℕ → Option MapsEntry
covering entries addr = find (covers addr) entries

-- what an address is reported under: the path of a file, or why it lies in none
abbrev pub Target : Type 0
Target = Result (List ℕ) Reason

-- the file by the process and the range, or by the path that it had
abbrev pub path_in : Bool → EntryPath → List ℕ
path_in map_files path = if map_files then path.maps_file else path.symbolic_path

-- the file of a map's name: a path; what is no file is not supported
abbrev pub named_target : Bool → Option PathName → Target
named_target map_files None = Err MissingComponent
named_target map_files (Some (Component text)) = Err Unsupported
named_target map_files (Some (Path path)) = Ok (path_in map_files path)

-- what an address is reported under that this entry covers, if one does
abbrev pub target_in : Bool → Option MapsEntry → Target
target_in map_files None = Err Unmapped
target_in map_files (Some entry) = named_target map_files entry.path_name

-- the file of the map that covers an address
abbrev pub target_at : List MapsEntry → Bool → ℕ → Target
target_at entries map_files addr = target_in map_files (covering entries addr)

-- an address's place in the file of its map; the address itself where the map has no file
abbrev pub named_value : ℕ → MapsEntry → Option PathName → ℕ
named_value addr entry None = addr
named_value addr entry (Some (Component text)) = addr
named_value addr entry (Some (Path path)) = addr - entry.range.start + entry.offset

-- where an address lies in its file; the address itself where it lies in none
abbrev pub value_in : ℕ → Option MapsEntry → ℕ
value_in addr None = addr
value_in addr (Some entry) = named_value addr entry entry.path_name

-- an address's place in the file of the map that covers it
abbrev pub normal_value_at : List MapsEntry → ℕ → ℕ
normal_value_at entries addr = value_in addr (covering entries addr)

-- that place passes 2^64 - 1
abbrev pub overflows : List MapsEntry → ℕ → Bool
overflows entries addr = not (nat_lt (normal_value_at entries addr) (2 ^ 64))

-- whether two reasons for no file are the same
abbrev pub same_reason : Reason → Reason → Bool
same_reason Unmapped Unmapped = true
same_reason Unmapped MissingComponent = false
same_reason Unmapped Unsupported = false
same_reason MissingComponent Unmapped = false
same_reason MissingComponent MissingComponent = true
same_reason MissingComponent Unsupported = false
same_reason Unsupported Unmapped = false
same_reason Unsupported MissingComponent = false
same_reason Unsupported Unsupported = true

-- one path, or one reason
abbrev pub same_target : Target → Target → Bool
same_target (Ok one) (Ok other) = bytes_eq one other
same_target (Ok one) (Err other) = false
same_target (Err one) (Ok other) = false
same_target (Err one) (Err other) = same_reason one other

-- two addresses are reported under one target
abbrev pub meets : List MapsEntry → Bool → ℕ → ℕ → Bool
meets entries map_files one other = same_target (target_at entries map_files one) (target_at entries map_files other)
