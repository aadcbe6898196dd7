-- The version that the names of a core's mapped files tell, and the layout that covers it; and a process that is opened
-- by these, where nothing that is there tells its version.
use Rattle.std.specs.Prelude.{◌≡◌, ◌⊎◌, ℕ, Bool, true, false, List, Option, Some, None, Result, Ok, Err}
use Rattle.image_memory.specs.Images.{Pushed}
use Rattle.image_memory.specs.Maps.{AreMaps}
use Rattle.image_memory.specs.declared.maps.CoreMapRange.{CoreMapRange}
use Rattle.py_fields.specs.declared.layout.Layout.{Layout}
use Rattle.py_fields.specs.declared.version.Version.{Version}
use Rattle.py_process.specs.Findings.{IsChosen}
use Rattle.py_process.specs.NamedVersions.{version_of_names}
use Rattle.py_process.specs.Programs.{ImagesSay, MapsSay}
use Rattle.py_process.specs.Reports.{CoreSays}
use Rattle.py_process.specs.Steps.{Then}
use Rattle.py_process.specs.declared.core_error.CoreError.{CoreError}
use Rattle.py_process.specs.declared.core_error.CoreError.TheVariants as core
use Rattle.core_stacks.specs.Process.{IsProcessOf, OpenedProcess, ProcessIs, opened_of}
use Rattle.core_stacks.specs.declared.named.Covered.{Covered}
use Rattle.core_stacks.specs.declared.process.Process.{Process}

-- the names of a core's files tell this version, which this layout covers
pub record NamesThis (bytes : List ℕ) (layouts : List Layout) (version : Version) (layout : Layout) : Type 0 where
  pub maps : List CoreMapRange
  pub are_maps : AreMaps bytes maps
  pub named : version_of_names maps ≡ Some version
  pub chosen : IsChosen layouts version layout

-- they tell none that a layout covers
pub record NamesNone (bytes : List ℕ) (layouts : List Layout) : Type 0 where
  pub maps : List CoreMapRange
  pub are_maps : AreMaps bytes maps
  pub none : (version : Version) → version_of_names maps ≡ Some version → (layout : Layout)
      → ¬ IsChosen layouts version layout

-- what the names of mapped files say of the version: this one, or none
abbrev pub NamesVersion : List ℕ → List Layout → Result (Option (Version × Layout)) CoreError → Type 0
NamesVersion bytes layouts (Ok (Some found)) = NamesThis bytes layouts found.0 found.1
NamesVersion bytes layouts (Ok None) = NamesNone bytes layouts
NamesVersion bytes layouts (Err e) = e ≡ core.OutOfMemory

-- ---- a process that is opened by them

-- whether a cause says that nothing that is there tells the version
abbrev pub is_untold : CoreError → Bool
is_untold (core.UnreadableVersion addr len) = true
is_untold core.NoVersion = true
is_untold _ = false

-- the process of a core and its images: nothing that is there tells its version, and the names of its files do
pub record IsNamedProcess (bytes : List ℕ) (images : Pushed) (layouts : List Layout) (o : OpenedProcess) : Type 0 where
  pub why : CoreError
  pub why_is : o.untold ≡ Some why
  pub untold : is_untold why ≡ true
  pub unopened : ProcessIs bytes images layouts (Err why)
  pub dumped : CoreSays bytes images (Ok o.dumped)
  pub known : Then (MapsSay o.dumped.maps) (ImagesSay images) (Ok o.known)
  pub names : NamesThis bytes layouts o.version o.layout

-- the process of a core and its images by what is there, or else by the names of its files; or the first cause why
-- there is none
abbrev pub ProcessOrNamed : List ℕ → Pushed → List Layout → Result OpenedProcess CoreError → Type 0
ProcessOrNamed bytes images layouts (Ok o) =
    ProcessIs bytes images layouts (Ok o) ⊎ IsNamedProcess bytes images layouts o
ProcessOrNamed bytes images layouts (Err e) =
    ProcessIs bytes images layouts (Err e) × (is_untold e ≡ true → NamesNone bytes layouts)

-- ---- as the code has it

-- a version with the layout that covers it, and why nothing that is there tells it
abbrev pub with_why : Version × Layout → Option CoreError → Covered
with_why told untold = record { version = told.0; layout = told.1; untold = untold }

-- what is told, or else what names tell, where nothing is told
abbrev pub OrNamed : List ℕ → List Layout → Result (Version × Layout) CoreError → Result Covered CoreError → Type 0
OrNamed bytes layouts (Ok told) result = result ≡ Ok (with_why told None)
OrNamed bytes layouts (Err e) (Ok c) =
    (is_untold e ≡ true) × NamesThis bytes layouts c.version c.layout × (c.untold ≡ Some e)
OrNamed bytes layouts (Err e) (Err f) =
    (f ≡ core.OutOfMemory) ⊎ ((f ≡ e) × (is_untold e ≡ true → NamesNone bytes layouts))

-- the process of a core, or the first cause why there is none
abbrev pub OpensOrNamed : List ℕ → Pushed → List Layout → Result Process CoreError → Type 0
OpensOrNamed bytes images layouts (Ok p) =
    (is : IsProcessOf bytes p) × ProcessOrNamed bytes images layouts (Ok (opened_of is.maps p))
OpensOrNamed bytes images layouts (Err e) = ProcessOrNamed bytes images layouts (Err e)
