-- The process of a core, opened by what the files of a report hold, and what is told of it alone. The text is this
-- project's own form.
use Rattle.std.specs.Prelude.{◌≡◌, ℕ, ◌++◌, List, [], ◌∷◌, Result, Ok, codes}
use Rattle.std.specs.List.{concat}
use Rattle.elf64_core.specs.Header.{machine_of}
use Rattle.image_memory.specs.Images.{Pushed}
use Rattle.py_fields.specs.declared.layout.Layout.{Layout}
use Rattle.py_fields.specs.Version.{version_text}
use Rattle.py_fields.specs.declared.version.Version.{Version}
use Rattle.py_stacks.specs.Asking.{default_config}
use Rattle.py_stacks.specs.declared.config.Config.{Config}
use Rattle.py_stacks.specs.declared.trace.Addresses.{Addresses}
use Rattle.py_process.specs.Findings.{Finding, FindingIs}
use Rattle.py_process.specs.Reports.{CoreSays, Dumped, memory_in}
use Rattle.py_process.specs.Steps.{Then}
use Rattle.py_process.specs.declared.core_error.CoreError.{CoreError}
use Rattle.core_stacks.specs.Opened.{Opened}
use Rattle.core_stacks.specs.declared.slimmed_error.SlimmedError.{SlimmedError}
use Rattle.core_stacks.specs.declared.slimmed_error.SlimmedError.TheVariants as slim
use Rattle.core_texts.specs.Parts.{address_text}
use Rattle.core_report.specs.declared.cause.Cause.{Cause}
use Rattle.core_report.specs.declared.cause.Cause.TheVariants.{Core, TooManyPieces, OutOfMemory}

-- an opened process of this core, these pieces and what was found
abbrev pub IsOpenedWith : List ℕ → Dumped → Finding → Result Opened CoreError → Type 0
IsOpenedWith bytes d f result = result ≡ Ok (record { core = bytes; pieces = d.pieces; finding = f })

-- what opening a core has to answer, by what its memory says
abbrev pub OpenedCore : List ℕ → Pushed → List Layout → Dumped → Result Opened CoreError → Type 0
OpenedCore bytes images layouts d =
    Then (FindingIs (memory_in d) (machine_of bytes) d.maps images layouts) (IsOpenedWith bytes d)

-- The process of a core and its images, or the first cause why nothing is found of it: the steps are the first ones of
-- a report (`ReportIs`)
abbrev pub OpenedIs : List ℕ → Pushed → List Layout → Result Opened CoreError → Type 0
OpenedIs bytes images layouts = Then (CoreSays bytes images) (OpenedCore bytes images layouts)

-- the version of Python that ran, where its interpreter is, and the address of its lock, 0 where there is none
abbrev pub locate_text : Version → Addresses → List ℕ
locate_text version a = codes "Python v" ++ (version_text version ++ (codes "\n" ++ concat (codes "Interpreter "
    ∷ address_text a.interpreter ∷ codes "\nLock " ∷ address_text a.lock ∷ codes "\n" ∷ [])))

-- what is asked for: locals, so often
abbrev pub level_asked : ℕ → Config
level_asked level = record default_config { dump_locals = level }

-- which cause it is that there is no slim core
abbrev pub slim_cause : SlimmedError → Cause
slim_cause (slim.Core error) = Core error
slim_cause (slim.TooManyPieces count) = TooManyPieces count
slim_cause slim.OutOfMemory = OutOfMemory
