-- Which files a command asks for, in which order, and what they hold.
use Rattle.std.specs.Prelude.{◌≡◌, ◌≢◌, ◌⊎◌, ⊤, ℕ, List, [], ◌∷◌, ◌++◌, length, slice_get, Option, Some, None, Err}
use Rattle.std.specs.Prelude.{Vec}
use Rattle.std.specs.Global.{Global}
use Rattle.outside.specs.Files.{Told, Gives}
use Rattle.py_layout.specs.File.{IsRightFor}
use Rattle.py_layout.specs.declared.error.LayoutError.{LayoutError}
use Rattle.py_layout.specs.declared.error.LayoutError.TheVariants as layout
use Rattle.core_words.specs.Words.{Command, Triage, dump, files_of, locate, merge, reach, seeded, slim}
use Rattle.core_words.specs.Words.{triage, walk}
pub use Rattle.program_run.specs.Reading.{contents, core_contents}
use Rattle.core_report.specs.declared.walk_command.WalkFiles.{WalkFiles}
use Rattle.core_report.specs.declared.merge_command.MergeFiles.{MergeFiles}
use Rattle.core_report.specs.declared.triage_command.TriageFiles.{TriageFiles}

-- the text of a layout file is at fault
pub record HasFlaw (text : List ℕ) : Type 0 where
  pub flaw : LayoutError
  pub not_memory : flaw ≢ layout.OutOfMemory
  pub is : IsRightFor text (Err flaw)

-- the layouts of cores in groups are judged once the images were read, before the first core is
abbrev pub StopsTriage : Triage → List (List ℕ) → Type 0
StopsTriage t [] = ⊥
StopsTriage t (text ∷ images) = (length images ≡ length t.images) × HasFlaw text

-- The command asks for none of its later files: its layouts were judged after these contents, and are at fault. A
-- command that has no later files judges them after it has read all.
abbrev pub Stops : Command → List (List ℕ) → Type 0
Stops (walk w) contents = ⊥
Stops (dump d) contents = ⊥
Stops (triage t) contents = StopsTriage t contents
Stops (reach r) contents = ⊥
Stops (merge m) contents = ⊥
Stops (locate l) contents = ⊥
Stops (slim s) contents = ⊥
Stops (seeded s) contents = ⊥

-- this is the file that is asked for after these contents
pub record IsNext (command : Command) (contents : List (List ℕ)) (name : List ℕ) : Type 0 where
  pub named : slice_get (files_of command) (length contents) ≡ Some name
  pub goes_on : ¬ Stops command contents

-- none is asked for after these contents
abbrev pub IsAll : Command → List (List ℕ) → Type 0
IsAll command contents = (slice_get (files_of command) (length contents) ≡ None) ⊎ Stops command contents

-- the file that is asked for after these contents has these bytes, where files tell them
pub record IsFile (told : Told) (command : Command) (before : List (List ℕ)) (bytes : List ℕ) : Type 0 where
  pub name : List ℕ
  pub next : IsNext command before name
  pub given : Gives told name bytes

-- after some contents, the files that are asked for in turn have these
abbrev pub AreFiles : Told → Command → List (List ℕ) → List (List ℕ) → Type 0
AreFiles told command before [] = ⊤
AreFiles told command before (bytes ∷ rest) =
    IsFile told command before bytes × AreFiles told command (before ++ bytes ∷ []) rest

-- the files that are asked for in turn have these contents
abbrev pub IsRead : Told → Command → List (List ℕ) → Type 0
IsRead told command contents = AreFiles told command [] contents

-- what the files of a walk hold, in the order in which they are asked for
abbrev pub text_contents : Option (Vec ℕ Global) → List (List ℕ)
text_contents None = []
text_contents (Some text) = text.items ∷ []

-- what the files of `walk` hold, in order
abbrev pub walk_contents : WalkFiles → List (List ℕ)
walk_contents files = files.core.items ∷ text_contents files.layouts

-- and the files of a merge, behind those of its core
abbrev pub merge_contents : MergeFiles → List (List ℕ)
merge_contents files = core_contents files.report ++ files.addresses.items ∷ []

-- and those of cores in groups that are read before the cores
abbrev pub triage_contents : TriageFiles → List (List ℕ)
triage_contents files = files.layouts.items ∷ contents files.images.items

-- ---- cores in groups

-- cores in groups ask for these files before the cores, and the layouts have no flaw
pub record AsksCores (t : Triage) (before : List (List ℕ)) : Type 0 where
  pub text : List ℕ
  pub images : List (List ℕ)
  pub are : before ≡ text ∷ images
  pub count : length images ≡ length t.images
  pub flawless : ¬ HasFlaw text
