-- The path of a map.
use Rattle.std.specs.Prelude.{ℕ, ◌-◌, ◌==◌, false, nat_eq, if◌then◌else◌, List, [], ◌∷◌, ◌++◌, length, take, Option}
use Rattle.std.specs.Prelude.{Some, None, codes, decimal}
use Rattle.std.specs.Fmt.{digits}
use Rattle.std.specs.List.{ends_with}
use Rattle.std.specs.declared.ops.Range.{Range}
use Rattle.bstr.specs.Utf8.{lossy_chars}
use Rattle.maps_text.specs.declared.entry.PathName.{PathName}
use Rattle.maps_text.specs.declared.entry.PathName.TheVariants.{Path, Component}

-- what a kernel writes behind the path of a file that is gone
abbrev pub deleted : List ℕ
deleted = codes " (deleted)"

-- a path less a final ` (deleted)`
abbrev pub undeleted : List ℕ → List ℕ
undeleted path = if ends_with nat_eq path deleted then take (length path - length deleted) path else path

-- /proc/PID/map_files/START-END, the number of the process in decimal, those of the range in lower-case
-- hexadecimal without leading zeros
abbrev pub maps_file_text : ℕ → ℕ → ℕ → List ℕ
maps_file_text pid start end = codes "/proc/" ++ (decimal pid ++ (codes "/map_files/"
    ++ (digits 16 false start ++ (codes "-" ++ digits 16 false end))))

-- a file's path
abbrev pub file_of : ℕ → Range ℕ → List ℕ → PathName
file_of pid range path = Path (record {
  maps_file = maps_file_text pid range.start range.end;
  symbolic_path = undeleted path;
})

-- none where there are no bytes, a file where they begin with `/`, and else the characters of what is no file
abbrev pub path_name_of : ℕ → Range ℕ → List ℕ → Option PathName
path_name_of pid range [] = None
path_name_of pid range (first ∷ others) = if first == 47
    then Some (file_of pid range (first ∷ others)) else Some (Component (lossy_chars (first ∷ others)))
