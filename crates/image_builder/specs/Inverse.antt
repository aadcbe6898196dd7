-- What is read of a core that was written and of the image beside it: what was written, and nothing else.
use Rattle.std.specs.Prelude.{◌≡◌, ◌↔◌, ℕ, List, [], ◌∷◌}
use Rattle.elf64_core.specs.Header.{machine_of}
use Rattle.image_memory.specs.Cores.{IsCore}
use Rattle.image_memory.specs.Images.{Pushed}
use Rattle.image_memory.specs.Mmap.{whole_view}
use Rattle.image_memory.specs.Pieces.{memory_of}
use Rattle.process_memory.specs.Memory.{byte_at}
use Rattle.py_fields.specs.declared.layout.Layout.{Layout}
use Rattle.py_stacks.specs.declared.config.Config.{Config}
use Rattle.py_stacks.specs.StacksOver.{AreStacksOver}
use Rattle.py_stacks.specs.Threads.{Trace}
use Rattle.py_process.specs.Findings.{Finding, IsFound}
use Rattle.py_process.specs.Reports.{AsksNoOther, Dumped, HasFrames, IsDumped, IsReadable, IsRight, Reported, memory_in}
use Rattle.memory_builder.specs.Program.{Program}
use Rattle.memory_builder.specs.Told.{program_told}
use Rattle.image_builder.specs.RuntimeWords.{interpreter_at}
use Rattle.image_builder.specs.Shown.{HaveSameFrames, without_addresses}

-- an image, handed in whole under its path, and no other
abbrev pub image_alone : (path image : List ℕ) → Pushed
image_alone path image = (path, whole_view image) ∷ []

-- this is found of a process by its core and images: a version, a layout of the list, and the addresses of the
-- interpreter and the lock; and nothing else is
abbrev pub FindsAlone : List ℕ → Pushed → List Layout → Finding → Type 0
FindsAlone core images layouts f = (dumped : Dumped) → IsDumped core images dumped → (g : Finding)
    → IsFound (memory_in dumped) (machine_of core) dumped.maps images layouts g ↔ (g ≡ f)

-- a report is owed exactly where neither native frames nor those of other processes are asked for
abbrev pub IsReadableAsAsked : List ℕ → Pushed → List Layout → Type 0
IsReadableAsAsked core images layouts = (c : Config) → IsReadable core images layouts c ↔ AsksNoOther c

-- the reports that are right by version, ids, names and marks are those that have them as this one has
abbrev pub HasFramesOf : List ℕ → Pushed → List Layout → Reported → Type 0
HasFramesOf core images layouts shown =
    (r : Reported) → HasFrames core images layouts r ↔ HaveSameFrames r shown

-- one report is right in all its fields, and it is this one, addresses of locals aside
pub record IsReportOf (core : List ℕ) (images : Pushed) (layouts : List Layout) (c : Config)
    (shown : Reported) : Type 0 where
  pub report : Reported
  pub right : (r : Reported) → IsRight core images layouts c r ↔ (r ≡ report)
  pub shows : without_addresses report ≡ shown

-- it is a core, and over its memory alone the stacks of the interpreter that was laid are exactly those of the program,
-- where no lock tells a holder, as a walk by handed-in addresses reads them
pub record IsCoreOf (l : Layout) (p : Program) (core : List ℕ) : Type 0 where
  pub is_core : IsCore core
  pub stacks : (c : Config) (traces : List Trace)
      → AreStacksOver c l (byte_at (memory_of core)) 0 interpreter_at traces
      ↔ (traces ≡ program_told c l interpreter_at 0 p)
