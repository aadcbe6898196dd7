-- The line of each fault of a file, of a layout file, and of a core, by its parts.
use Rattle.std.specs.Prelude.{ℕ, ◌++◌, List, [], ◌∷◌, codes, decimal, encode_utf8_all}
use Rattle.std.specs.Fmt.{signed_decimal}
use Rattle.outside.specs.declared.faults.FileFault.{FileFault}
use Rattle.outside.specs.declared.faults.FileFault.TheVariants as fault
use Rattle.py_fields.specs.Version.{version_text}
use Rattle.py_layout.specs.declared.error.LayoutError.{LayoutError}
use Rattle.py_layout.specs.declared.error.LayoutError.TheVariants as layout
use Rattle.py_process.specs.declared.core_error.CoreError.{CoreError}
use Rattle.py_process.specs.declared.core_error.CoreError.TheVariants as core
use Rattle.core_texts.specs.Parts.{address_text}

-- the line of a text, behind such a front
abbrev pub line_of : List ℕ → List ℕ → List ℕ
line_of front text = front ++ (text ++ codes "\n")

-- what so many bytes at this address are, after these words
abbrev pub range_parts : List ℕ → ℕ → ℕ → List (List ℕ)
range_parts words addr len =
    words ∷ codes " at " ∷ address_text addr ∷ codes ", " ∷ decimal len ∷ codes " bytes" ∷ []

-- why a core gives no stacks
abbrev pub core_parts : CoreError → List (List ℕ)
core_parts core.NotElf64 = codes "not an ELF64 little-endian file" ∷ []
core_parts core.BadHeader = codes "bad program headers" ∷ []
core_parts core.NoNotes = codes "no note segment" ∷ []
core_parts core.BadNote = codes "bad note" ∷ []
core_parts core.NoBinary = codes "no named executable map" ∷ []
core_parts (core.NoImage path) = codes "image not given: " ∷ path ∷ []
core_parts (core.BadImage path) = codes "bad image: " ∷ path ∷ []
core_parts (core.UnreadableVersion addr len) = range_parts (codes "version unreadable") addr len
core_parts core.NoVersion = codes "no Python version found" ∷ []
core_parts (core.UnsupportedVersion version) = codes "no layout for Python " ∷ version_text version ∷ []
core_parts core.NoInterpreter = codes "no interpreter found" ∷ []
core_parts (core.Unreadable addr len) = range_parts (codes "unreadable") addr len
core_parts core.NativeUnsupported = codes "native frames are not read from a core" ∷ []
core_parts core.SubprocessesUnsupported = codes "subprocesses are not read from a core" ∷ []
core_parts (core.BadValue frame) = codes "bad variable name or count in frame " ∷ address_text frame ∷ []
core_parts (core.LocalsLimit count) = codes "a frame counts " ∷ signed_decimal count ∷ codes " locals" ∷ []
core_parts core.ThreadLimit = codes "more than 4096 threads" ∷ []
core_parts core.FrameLimit = codes "more than 4096 frames in a thread" ∷ []
core_parts core.ChainLimit = codes "more than 16384 frames visited in a thread" ∷ []
core_parts core.OutOfMemory = codes "out of memory" ∷ []

-- why layouts are refused
abbrev pub layout_parts : LayoutError → List (List ℕ)
layout_parts layout.NotToml = codes "layouts: not TOML" ∷ []
layout_parts (layout.Shape table key) =
    codes "layouts: table " ∷ decimal table ∷ codes ", key " ∷ encode_utf8_all key ∷ []
layout_parts (layout.Unsound table) = codes "layouts: table " ∷ decimal table ∷ codes " is unsound" ∷ []
layout_parts (layout.Clash first second) =
    codes "layouts: tables " ∷ decimal first ∷ codes " and " ∷ decimal second ∷ codes " clash" ∷ []
layout_parts layout.OutOfMemory = codes "out of memory" ∷ []

-- why a file of this name can't be read
abbrev pub file_parts : List ℕ → FileFault → List (List ℕ)
file_parts name fault.Failed = codes "cannot read " ∷ name ∷ []
file_parts name fault.TooLong = codes "file too long: " ∷ name ∷ []
file_parts name fault.OutOfMemory = codes "out of memory" ∷ []
