-- Parts of paths, and where a source file is looked for.
use Rattle.std.specs.Prelude.{ℕ, ◌+◌, ◌-◌, ◌==◌, ◌&&◌, ◌||◌, nat_le, nat_lt, not, Bool, if◌then◌else◌, List, [], ◌++◌}
use Rattle.std.specs.Prelude.{length, take, drop, slice_index, bytes_eq, codes, Option, Some, None, unwrap_or}
use Rattle.std.specs.Option.{is_some}
use Rattle.std.specs.List.{after_last, suffix_len}

-- a text up to and with the last character of a kind; nothing where it has none
abbrev pub up_to_last : (ℕ → Bool) → List ℕ → List ℕ
up_to_last is text = take (length text - suffix_len (λ c. not (is c)) text) text

-- whether a character is `/`
abbrev pub is_separator : ℕ → Bool
is_separator c = c == 47

-- whether a character is `.`
abbrev pub is_point : ℕ → Bool
is_point c = c == 46

-- a path up to and with its last slash
abbrev pub folder_of : List ℕ → List ℕ
folder_of path = up_to_last is_separator path

-- what stands behind the last slash of a path, or all of it
abbrev pub last_part : List ℕ → List ℕ
last_part path = after_last is_separator path

-- such a part names no file
abbrev pub is_no_file : List ℕ → Bool
is_no_file part = bytes_eq part [] || bytes_eq part (codes ".") || bytes_eq part (codes "..")

-- a module of this name stands in no folder
abbrev pub is_no_module : List ℕ → Bool
is_no_module module_name = bytes_eq module_name [] || bytes_eq module_name (codes "/")

-- the file of this name's last part in a module's folder
abbrev pub beside : List ℕ → List ℕ → Option (List ℕ)
beside filename module_name = if is_no_file (last_part filename) || is_no_module module_name then None
    else Some (folder_of module_name ++ last_part filename)

-- a path where it exists
abbrev pub existing : (List ℕ → Bool) → Option (List ℕ) → Option (List ℕ)
existing exists None = None
existing exists (Some path) = if exists path then Some path else None

-- the file name where it exists, else the one beside the module where that does
abbrev pub resolved : (List ℕ → Bool) → List ℕ → List ℕ → Option (List ℕ)
resolved exists filename module_name =
    if exists filename then Some filename else existing exists (beside filename module_name)

-- ---- Cython's file

-- what follows the last dot of a path's last part, where that dot isn't its first character and something follows
abbrev pub extension_in : List ℕ → Option (List ℕ)
extension_in part =
    let extension = after_last is_point part in
    if nat_lt 0 (length extension) && nat_lt (length extension + 1) (length part) then Some extension else None

-- such a part up to and with the dot of its extension; one that has none gets a dot
abbrev pub with_dot : List ℕ → List ℕ
with_dot part = if is_some (extension_in part) then up_to_last is_point part else part ++ codes "."

-- a path with another extension
abbrev pub with_extension : List ℕ → List ℕ → List ℕ
with_extension path extension = folder_of path ++ with_dot (last_part path) ++ extension

-- nothing, or what ends with a slash
abbrev pub is_folder : List ℕ → Bool
is_folder front = length front == 0 || slice_index front (length front - 1) == 47

-- a path is this name, or ends with a slash and this name
abbrev pub is_called : List ℕ → List ℕ → Bool
is_called path name = nat_le (length name) (length path)
    && (bytes_eq (drop (length path - length name) path) name && is_folder (take (length path - length name) path))

-- a path, where it is called by this name
abbrev pub called : List ℕ → List ℕ → Option (List ℕ)
called name path = if is_called path name then Some path else None

-- the C file's path with the extension of Cython's file, where it is called as that is
abbrev pub renamed_by : List ℕ → List ℕ → Option (List ℕ) → Option (List ℕ)
renamed_by c_path name None = None
renamed_by c_path name (Some extension) = called name (with_extension c_path extension)

-- the C file's path with the extension of a name, where it is called by that name then
abbrev pub renamed : List ℕ → List ℕ → Option (List ℕ)
renamed c_path name = renamed_by c_path name (extension_in (last_part name))

-- the file that is found with the module, else the name
abbrev pub file_in_module : (List ℕ → Bool) → Option (List ℕ) → List ℕ → List ℕ
file_in_module exists None name = name
file_in_module exists (Some module_name) name = unwrap_or (resolved exists name module_name) name

-- the path of Cython's file of this name: beside its C file, else as its module tells, else its name
abbrev pub cython_file : (List ℕ → Bool) → List ℕ → Option (List ℕ) → List ℕ → List ℕ
cython_file exists c_path module_name name =
    unwrap_or (existing exists (renamed c_path name)) (file_in_module exists module_name name)
