-- What a run of the top call means.
use Rattle.std.specs.Prelude.{◌≡◌, ◌⊎◌, ◌++◌, ℕ, ◌+◌, ◌≤◌, List, length, map, Option, Some, IsSome, Result, Ok, Err}
use Rattle.std.specs.Prelude.{codes}
use Rattle.outside.specs.Files.{FilesSeen, Told}
use Rattle.image_memory.specs.Images.{Pushed}
use Rattle.py_fields.specs.declared.layout.Layout.{Layout}
use Rattle.program_run.specs.Ends.{IsTroubled, Program}
use Rattle.program_run.specs.declared.trouble.Trouble.{Trouble}
use Rattle.core_stacks.specs.Opened.{Opened, opened_memory}
use Rattle.core_stacks.specs.Reached.{finding_cost}
use Rattle.core_words.specs.Words.{Command, Merge, Slim, Triage, Walk, kept_files, merge, triage, walk}
use Rattle.core_report.specs.declared.cause.Cause.{Cause}
use Rattle.core_report.specs.declared.walk_command.WalkFiles.{WalkFiles}
use Rattle.core_report.specs.declared.judged.JudgedCores.{JudgedCores}
use Rattle.core_report.specs.declared.merge_command.MergeFiles.{MergeFiles}
use Rattle.core_report.specs.declared.triage_command.TriageFiles.{TriageFiles}
use Rattle.core_report.specs.Grouped.{AreJudged, Judged}
use Rattle.core_report.specs.Judging.{Keeps}
use Rattle.core_report.specs.Reading.{IsAll, IsNext, IsRead, merge_contents, triage_contents, walk_contents}
use Rattle.core_report.specs.Opening.{level_asked}
use Rattle.core_report.specs.Outcome.{IsOutcome, IsOwnCause, OpensBy, Outcome, cause_status}
use Rattle.core_report.specs.Lines.{cause_says}

-- over the contents of all the files that it asks for, a command comes to this outcome
pub record ComesTo (told : Told) (command : Command) (outcome : Outcome) : Type 0 where
  pub contents : List (List ℕ)
  pub read : IsRead told command contents
  pub all : IsAll command contents
  pub is : IsOutcome command contents outcome

-- after the contents of the files before it, this file is asked for
pub record AsksNext (told : Told) (command : Command) (name : List ℕ) : Type 0 where
  pub contents : List (List ℕ)
  pub read : IsRead told command contents
  pub next : IsNext command contents name

-- this program: what its lines begin with, what it says of causes, and what its commands come to
abbrev pub pystacks : Program Command Cause
pystacks = record { start = codes "pystacks: "; says = cause_says; Comes = ComesTo; Asks = AsksNext }

-- the words ask for this command, and the files tell these contents of all that it asks for
pub record TellsContents (asked : Option Command) (told : Told) (command : Command)
    (contents : List (List ℕ)) : Type 0 where
  pub is_asked : asked ≡ Some command
  pub tells : IsSome told
  pub read : IsRead told command contents
  pub all : IsAll command contents

-- a command ends by a cause of its own, over contents with which else nothing is wrong
pub record EndsItself (command : Command) (contents : List (List ℕ)) (status : ℕ) : Type 0 where
  pub cause : Cause
  pub own : IsOwnCause cause
  pub is : IsOutcome command contents (Err cause)
  pub status_is : status ≡ cause_status cause

-- a slim core was written, or a front of one, or there were too many pieces, or memory ran out
abbrev pub MayBeSlim : ℕ → Type 0
MayBeSlim status = (status ≡ 0) ⊎ ((status ≡ 4) ⊎ ((status ≡ 5) ⊎ (status ≡ 8)))

-- the process that the files open has stacks that take no more reads than a slim core may have pieces: no footprint of
-- them has more ranges than that
pub record HasFewReads (s : Slim) (contents : List (List ℕ)) : Type 0 where
  pub process : Opened
  pub opens : OpensBy s.images contents (Ok process)
  pub few : 13 + finding_cost (level_asked s.level) (opened_memory process) process.finding ≤ 65533

-- ---- as files are read

-- the files that a command asks for hold these contents, and none failed
pub record HasAll (old new : FilesSeen) (command : Command) (contents : List (List ℕ)) : Type 0 where
  pub read : IsRead old.told command contents
  pub all : IsAll command contents
  pub failed : new.failed ≡ old.failed

-- what reading the files of a walk answers; there is a text of layouts exactly where the words name a layout file
abbrev pub HasWalkFiles : FilesSeen → FilesSeen → Walk → Result WalkFiles (Trouble Cause) → Type 0
HasWalkFiles old new w (Ok files) = HasAll old new (walk w) (walk_contents files)
    × (length (walk_contents files) ≡ length (kept_files (walk w)))
HasWalkFiles old new w (Err trouble) = IsTroubled pystacks old new (walk w) trouble

-- the first files that a command asks for hold these contents, and none failed
pub record HasFirst (old new : FilesSeen) (command : Command) (contents : List (List ℕ)) : Type 0 where
  pub read : IsRead old.told command contents
  pub failed : new.failed ≡ old.failed

-- and the files of a merge
abbrev pub HasMergeFiles : FilesSeen → FilesSeen → Merge → Result MergeFiles (Trouble Cause) → Type 0
HasMergeFiles old new m (Ok files) = HasAll old new (merge m) (merge_contents files)
    × (length files.report.images.items ≡ length m.images)
HasMergeFiles old new m (Err trouble) = IsTroubled pystacks old new (merge m) trouble

-- and those of cores in groups that are read before the cores
abbrev pub HasTriageFiles : FilesSeen → FilesSeen → Triage → Result TriageFiles (Trouble Cause) → Type 0
HasTriageFiles old new t (Ok files) =
    HasFirst old new (triage t) (triage_contents files) × (length files.images.items ≡ length t.images)
HasTriageFiles old new t (Err trouble) = IsTroubled pystacks old new (triage t) trouble

-- the cores of a group were read after those files, and each judged
pub record HasJudged (old new : FilesSeen) (t : Triage) (before : List (List ℕ)) (images : Pushed)
    (layouts : List Layout) (kept : JudgedCores) : Type 0 where
  pub cores : List Judged
  pub contents : List (List ℕ)
  pub named : map (λ c. c.name) cores ≡ t.cores
  pub judged : AreJudged images layouts contents cores
  pub keeps : Keeps cores kept
  pub first : HasFirst old new (triage t) (before ++ contents)

-- the cores were read and judged one after the other, or a read failed
abbrev pub HasCores : FilesSeen → FilesSeen → Triage → List (List ℕ) → Pushed → List Layout
    → Result JudgedCores (Trouble Cause) → Type 0
HasCores old new t before images layouts (Ok kept) = HasJudged old new t before images layouts kept
HasCores old new t before images layouts (Err trouble) = IsTroubled pystacks old new (triage t) trouble
