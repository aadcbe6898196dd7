-- The process of a core, opened, before its interpreters are looked for: the steps are those of a report up to the
-- layout.
use Rattle.std.specs.Prelude.{◌≡◌, ℕ, List, Option, None, Result, Ok, Err}
use Rattle.image_memory.specs.Backed.{regions_of}
use Rattle.image_memory.specs.Cores.{IsCore}
use Rattle.image_memory.specs.Images.{Pushed}
use Rattle.image_memory.specs.MapTables.{tests}
use Rattle.image_memory.specs.Maps.{in_maps}
use Rattle.image_memory.specs.declared.maps.CoreMapRange.{CoreMapRange}
use Rattle.py_fields.specs.declared.layout.Layout.{Layout}
use Rattle.py_fields.specs.declared.version.Version.{Version}
use Rattle.py_process.specs.Facts.{Known, known_of}
use Rattle.py_process.specs.Findings.{ProcessThen}
use Rattle.py_process.specs.Reports.{CoreSays, Dumped, NotesTell, memory_in}
use Rattle.py_process.specs.Steps.{Then}
use Rattle.py_process.specs.declared.core_error.CoreError.{CoreError}
use Rattle.core_stacks.specs.declared.process.Process.{Process}

-- what is dumped of a process, what is known of it by its images, its version, and the layout that covers that; and why
-- nothing that is there tells the version, where the names of its files alone do
pub record OpenedProcess : Type 0 where
  pub dumped : Dumped
  pub known : Known
  pub version : Version
  pub layout : Layout
  pub untold : Option CoreError

-- an opened process of this core, these binaries, this version and this layout
abbrev pub IsOpenedBy : Dumped → Known → Version → Layout → Result OpenedProcess CoreError → Type 0
IsOpenedBy d k v l result =
    result ≡ Ok (record { dumped = d; known = k; version = v; layout = l; untold = None })

-- the process of a core and its images, by some layouts, or the first cause why there is none
abbrev pub ProcessIs : List ℕ → Pushed → List Layout → Result OpenedProcess CoreError → Type 0
ProcessIs bytes images layouts =
    Then (CoreSays bytes images) (λ d. ProcessThen (memory_in d) d.maps images layouts (IsOpenedBy d))

-- ---- as the code has it

-- an opened process, with the maps of its core
abbrev pub opened_of : List CoreMapRange → Process → OpenedProcess
opened_of maps p = record {
  dumped = record { maps = maps; pieces = regions_of p.dump };
  known = known_of p.info;
  version = p.version;
  layout = p.layout;
  untold = p.untold;
}

-- it is read of a core, and has what the core's notes tell
pub record IsProcessOf (bytes : List ℕ) (p : Process) : Type 0 where
  pub same : p.dump.core ≡ bytes
  pub maps : List CoreMapRange
  pub tested : tests p.info.maps ≡ in_maps maps
  pub notes : NotesTell bytes p.notes.signal p.notes.process

-- it is that of a core, and what the core's notes tell
pub record IsProcess (bytes : List ℕ) (images : Pushed) (layouts : List Layout) (p : Process) : Type 0 where
  pub core : IsCore bytes
  pub same : p.dump.core ≡ bytes
  pub maps : List CoreMapRange
  pub tested : tests p.info.maps ≡ in_maps maps
  pub opened : ProcessIs bytes images layouts (Ok (opened_of maps p))
  pub notes : NotesTell bytes p.notes.signal p.notes.process

-- that, or the first cause why there is none
abbrev pub OpensProcess : List ℕ → Pushed → List Layout → Result Process CoreError → Type 0
OpensProcess bytes images layouts (Ok p) = IsProcess bytes images layouts p
OpensProcess bytes images layouts (Err e) = ProcessIs bytes images layouts (Err e)
