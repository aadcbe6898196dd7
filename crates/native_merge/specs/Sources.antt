-- What sources mean: which paths exist, and what their bytes are. The conventions are those of `Files` (outside).
use Rattle.std.specs.Prelude.{◌≡◌, ℕ, ◌≤◌, Bool, false, if◌then◌else◌, List, [], Option, Some, None, Result, Ok, Err}
use Rattle.std.specs.Option.{is_some}
use Rattle.outside.specs.Counts.{count_after}
use Rattle.outside.specs.Files.{Told, held_bytes, is_listed}
use Rattle.native_merge.specs.declared.fault.SourceFault.{SourceFault}
use Rattle.native_merge.specs.declared.fault.SourceFault.TheVariants.{Missing, Failed, OutOfMemory}

-- which paths exist, the paths with their bytes, where they are told, and how many calls failed
pub record SourcesSeen : Type 0 where
  pub exists : List ℕ → Bool
  pub told : Told
  pub faults : ℕ

-- a call leaves what exists and what is told, and the count of faults doesn't fall
pub record Stay (before now : SourcesSeen) : Type 0 where
  pub exists : now.exists ≡ before.exists
  pub told : now.told ≡ before.told
  pub faults : before.faults ≤ now.faults

-- no path exists, and no call failed
abbrev pub no_sources : SourcesSeen
no_sources = record { exists = λ _. false; told = Some []; faults = 0 }

-- sources in memory: paths with their bytes, the numbers of the calls of `contents` that are to fail, how many of
-- them there were, and how many failed
pub record HeldSources : Type 0 where
  pub files : List (List ℕ × List ℕ)
  pub failing : List ℕ
  pub calls : ℕ
  pub faults : ℕ

-- what they mean: the paths that are held exist
abbrev pub sources_seen : HeldSources → SourcesSeen
sources_seen held = record {
  exists = λ path. is_some (held_bytes held.files path);
  told = Some held.files;
  faults = held.faults;
}

-- sources before the first call
abbrev pub unread_sources : List (List ℕ × List ℕ) → List ℕ → HeldSources
unread_sources files failing = record { files = files; failing = failing; calls = 0; faults = 0 }

-- what a call answers where there is memory, by whether it is to fail
abbrev pub source_or : Bool → Option (List ℕ) → Result (List ℕ) SourceFault
source_or fails None = Err Missing
source_or fails (Some bytes) = if fails then Err Failed else Ok bytes

-- what a call of `contents` answers for a path, where there is memory
abbrev pub source_answer : HeldSources → List ℕ → Result (List ℕ) SourceFault
source_answer held path = source_or (is_listed held.failing held.calls) (held_bytes held.files path)

-- the count of faults after an answer: one more after `Failed`
abbrev pub faults_with : ℕ → SourceFault → ℕ
faults_with faults Missing = faults
faults_with faults Failed = count_after faults 1
faults_with faults OutOfMemory = faults

-- the count of faults after a result
abbrev pub source_faults : {T : Type 0} → ℕ → Result T SourceFault → ℕ
source_faults faults (Ok _) = faults
source_faults faults (Err fault) = faults_with faults fault

-- what a call of `contents` with this answer leaves of sources
pub record HasGiven {T : Type 0} (old : HeldSources) (answer : Result T SourceFault) (new : HeldSources) : Type 0 where
  pub files : new.files ≡ old.files
  pub failing : new.failing ≡ old.failing
  pub calls : new.calls ≡ count_after old.calls 1
  pub faults : new.faults ≡ source_faults old.faults answer
