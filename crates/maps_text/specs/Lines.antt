-- What a line says, or why it is refused.
use Rattle.std.specs.Prelude.{ℕ, ◌&&◌, Bool, not, List, [], ◌∷◌, ◌++◌, Option, Some, None, Result, Ok, Err}
use Rattle.std.specs.Str.Parse.{digits_value}
use Rattle.std.specs.declared.ops.Range.{Range}
use Rattle.elf64_core.specs.Outcomes.{first_cause}
use Rattle.maps_text.specs.declared.entry.MapsEntry.{MapsEntry}
use Rattle.maps_text.specs.declared.error.MapsError.{MapsError}
use Rattle.maps_text.specs.declared.error.MapsError.TheVariants.{NoRange, BadStart, BadEnd, NoMode, BadMode, NoOffset}
use Rattle.maps_text.specs.declared.error.MapsError.TheVariants.{BadOffset, NoDevice}
use Rattle.maps_text.specs.declared.perm.Perm.{Perm}
use Rattle.maps_text.specs.Fields.{field, behind, has_white, has_dash, before_dash, after_dash, is_number, trimmed}
use Rattle.maps_text.specs.Paths.{path_name_of}
use Rattle.maps_text.specs.Perms.{is_mode, perm_of}

-- a line's parts: each field ends at the first white space
abbrev pub after_range : List ℕ → List ℕ
after_range line = behind line

-- a line of maps behind its permissions (proc(5), /proc/PID/maps)
abbrev pub after_mode : List ℕ → List ℕ
after_mode line = behind (after_range line)

-- a line of maps behind its offset
abbrev pub after_offset : List ℕ → List ℕ
after_offset line = behind (after_mode line)

-- a line of maps behind its device
abbrev pub after_device : List ℕ → List ℕ
after_device line = behind (after_offset line)

-- a line of maps behind its inode
abbrev pub after_inode : List ℕ → List ℕ
after_inode line = behind (after_device line)

-- START-END
abbrev pub line_range_of : List ℕ → Range ℕ
line_range_of line = record {
  start = digits_value 16 (before_dash (field line));
  end = digits_value 16 (after_dash (field line));
}

-- the permissions of a line of maps
abbrev pub perm_in_line : List ℕ → Perm
perm_in_line line = perm_of (field (after_range line))

-- the offset of a line of maps, in bytes; it is written in hexadecimal digits
abbrev pub map_offset_of : List ℕ → ℕ
map_offset_of line = digits_value 16 (field (after_mode line))

-- what stands behind the inode, without the white space at its ends; nothing where no white space follows it
abbrev pub line_path_of : List ℕ → List ℕ
line_path_of line = trimmed (after_inode line)

-- the entry of a line without a fault
abbrev pub line_entry_of : ℕ → List ℕ → MapsEntry
line_entry_of pid line = record {
  range = line_range_of line;
  perm = perm_in_line line;
  offset = map_offset_of line;
  path_name = path_name_of pid (line_range_of line) (line_path_of line);
  build_id = None;
}

-- what may be wrong with the range that a line begins with; each cause stands with whether it is so
abbrev pub range_faults : List ℕ → List (Bool × MapsError)
range_faults line =
    (not (has_white line && has_dash (field line)), NoRange)
    ∷ (not (is_number (before_dash (field line))), BadStart)
    ∷ (not (is_number (after_dash (field line))), BadEnd) ∷ []

-- with the mode that some bytes begin with
abbrev pub mode_faults : List ℕ → List (Bool × MapsError)
mode_faults rest = (not (has_white rest), NoMode) ∷ (not (is_mode (field rest)), BadMode) ∷ []

-- with the offset
abbrev pub offset_faults : List ℕ → List (Bool × MapsError)
offset_faults rest = (not (has_white rest), NoOffset) ∷ (not (is_number (field rest)), BadOffset) ∷ []

-- with the device
abbrev pub device_faults : List ℕ → List (Bool × MapsError)
device_faults rest = (not (has_white rest), NoDevice) ∷ []

-- what may be wrong with a line, in the order in which it is looked for
abbrev pub line_faults : List ℕ → List (Bool × MapsError)
line_faults line = range_faults line ++ (mode_faults (after_range line)
    ++ (offset_faults (after_mode line) ++ device_faults (after_offset line)))

-- an entry, or the first fault
abbrev pub entry_or : Option MapsError → MapsEntry → Result MapsEntry MapsError
entry_or None entry = Ok entry
entry_or (Some error) entry = Err error

-- what a line says of a map of a process: its entry, or its first fault
abbrev pub maps_line_of : ℕ → List ℕ → Result MapsEntry MapsError
maps_line_of pid line = entry_or (first_cause (line_faults line)) (line_entry_of pid line)
