-- What the program's own values stand for.
use Rattle.std.specs.Prelude.{◌≡◌, ℕ, All, List, Option, Some, None, Result, Ok, Err, IfOk, option_copied}
use Rattle.elf64_core.specs.Header.{machine_of}
use Rattle.image_memory.specs.Images.{Pushed}
use Rattle.image_memory.specs.MapTables.{tests}
use Rattle.image_memory.specs.Maps.{AreMaps, in_maps}
use Rattle.image_memory.specs.declared.map_table.MapTable.{MapTable}
use Rattle.image_memory.specs.declared.maps.CoreMapRange.{CoreMapRange}
use Rattle.py_fields.specs.declared.layout.Layout.{Layout}
use Rattle.py_fields.specs.declared.version.Version.{Version}
use Rattle.py_process.specs.Findings.{Finding, FindingIs}
use Rattle.py_process.specs.Reports.{Dumped, IsDumped, memory_in}
use Rattle.py_process.specs.Facts.{Facts, Known, known_of}
use Rattle.py_process.specs.Programs as programs
use Rattle.py_process.specs.Steps.{Then}
use Rattle.py_process.specs.declared.process_info.PythonProcessInfo.{PythonProcessInfo}
use Rattle.py_process.specs.declared.core_error.CoreError.{CoreError}
use Rattle.core_stacks.specs.declared.found.Found.{Found}
use Rattle.core_stacks.specs.declared.found.PythonBinaries.{PythonBinaries}
use Rattle.core_stacks.specs.declared.programs.Programs.{Programs}

-- the images of the program and of Python's library
abbrev pub programs_now : Programs → programs.Programs
programs_now p = record { program = p.program.now; library = option_copied p.library }

-- a result with the images of the program and of Python's library
abbrev pub programs_in : Result Programs CoreError → Result programs.Programs CoreError
programs_in (Ok p) = Ok (programs_now p)
programs_in (Err e) = Err e

-- a result with what the binaries say
abbrev pub known_in : {M : Type 0} → Result (PythonProcessInfo M) CoreError → Result Known CoreError
known_in (Ok info) = Ok (known_of info)
known_in (Err e) = Err e

-- maps that start at one address have files of one name
abbrev pub HaveOneName : List CoreMapRange → Type 0
HaveOneName maps = (name_at : ℕ → Option (List ℕ)) × All (λ m. m.pathname ≡ name_at m.segment.addr) maps

-- what is known of the process of a core by its maps and the images, or why nothing is
pub record Knows (bytes : List ℕ) (images : Pushed)
    (result : Result (PythonProcessInfo MapTable) CoreError) : Type 0 where
  pub maps : List CoreMapRange
  pub are_maps : AreMaps bytes maps
  pub says : Then (programs.MapsSay maps) (programs.ImagesSay images) (known_in result)
  pub tested : IfOk result (λ info. tests info.maps ≡ in_maps maps)

-- what is wrong with the image of this map
abbrev pub IsImageError : Pushed → CoreMapRange → CoreError → Type 0
IsImageError images m error = programs.ImagesSay images (record { program = m; library = None }) (Err error)

-- of what is so of the program and of the library, what is so of the one whose image is needed
abbrev pub needed_by : {T : Type 0} → Option CoreMapRange → T → T → T
needed_by None program library = program
needed_by (Some m) program library = library

-- what was found of a process: version, layout and addresses
abbrev pub finding_of : Found → Finding
finding_of f = record { version = f.version; layout = f.layout; addresses = f.addresses }

-- a result with what was found of a process
abbrev pub finding_in : Result Found CoreError → Result Finding CoreError
finding_in (Ok f) = Ok (finding_of f)
finding_in (Err e) = Err e

-- a version with the layout that covers it
abbrev pub IsCovered : Version → Layout → Result (Version × Layout) CoreError → Type 0
IsCovered version layout result = result ≡ Ok (version, layout)

-- what is found of the process of a core and its images, or the first cause why nothing is
pub record FindsProcess (bytes : List ℕ) (images : Pushed) (layouts : List Layout)
    (result : Result Finding CoreError) : Type 0 where
  pub dumped : Dumped
  pub is_dumped : IsDumped bytes images dumped
  pub is : FindingIs (memory_in dumped) (machine_of bytes) dumped.maps images layouts result

-- what is found, without the binaries beside it
abbrev pub finding_first : Result (Found × PythonBinaries) CoreError → Result Finding CoreError
finding_first (Ok found) = Ok (finding_of found.0)
finding_first (Err e) = Err e

-- what the images of the program and of Python's library say, by the maps of a core: nothing where they aren't handed
-- in, or say nothing
pub record AreBinaries (bytes : List ℕ) (images : Pushed) (program library : Option Facts) : Type 0 where
  pub maps : List CoreMapRange
  pub are_maps : AreMaps bytes maps
  pub mapped : programs.Programs
  pub are_programs : programs.ArePrograms maps mapped
  pub program_says : programs.FactsAre images mapped.program program
  pub library_says : programs.FactsOf images mapped.library library
