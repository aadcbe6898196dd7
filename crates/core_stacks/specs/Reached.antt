-- How far a report comes, and how many reads that takes at most: what is counted ends where the work ends.
use Rattle.std.specs.Prelude.{◌≡◌, ℕ, ◌+◌, ◌*◌, ◌≤◌, Bool, List, Option, Some, None, IfSome, Result, Ok}
use Rattle.elf64_core.specs.Header.{machine_of}
use Rattle.image_memory.specs.Images.{Pushed}
use Rattle.image_memory.specs.Maps.{in_maps}
use Rattle.image_memory.specs.declared.maps.CoreMapRange.{CoreMapRange}
use Rattle.process_memory.specs.Memory.{Memory, byte_at}
use Rattle.process_memory.specs.Seen.{ReadingOf, Seen}
use Rattle.py_fields.specs.declared.layout.Layout.{Layout}
use Rattle.py_fields.specs.declared.version.Version.{Version}
use Rattle.py_stacks.specs.declared.config.Config.{Config}
use Rattle.py_stacks.specs.Asking.{asked_of}
use Rattle.py_stacks.specs.Met.{locals_walked, members_walked, threads_walked}
use Rattle.py_stacks.specs.NamedStacks.{slots_named}
use Rattle.py_stacks.specs.StacksOver.{values_met}
use Rattle.py_process.specs.Candidates.{candidate_cost, candidates_of, search_cost}
use Rattle.py_process.specs.Facts.{Known}
use Rattle.py_process.specs.Findings.{AfterImages, Finding, IsChosen, IsFound}
use Rattle.py_process.specs.Programs.{ArePrograms, IsKnown, Programs}
use Rattle.py_process.specs.Reports.{Dumped, IsDumped, IsTold, Reported, StacksSay, memory_in}
use Rattle.py_process.specs.Sections.{IsSearched}
use Rattle.py_process.specs.Steps.{Then}
use Rattle.py_process.specs.Sources.{FirstTells, sources_of}
use Rattle.py_process.specs.declared.core_error.CoreError.{CoreError}

-- what candidates are tried by: what is known of the process, its version, and the layout that covers it
pub record Trial : Type 0 where
  pub known : Known
  pub version : Version
  pub layout : Layout

-- it is of this memory, these maps, images and layouts
pub record IsTrial (m : Memory) (maps : List CoreMapRange) (images : Pushed) (layouts : List Layout)
    (t : Trial) : Type 0 where
  pub programs : Programs
  pub are_programs : ArePrograms maps programs
  pub is_known : IsKnown images programs t.known
  pub told : FirstTells m (sources_of t.known) (Ok (Some t.version))
  pub chosen : IsChosen layouts t.version t.layout

-- the same where what is known is settled
pub record IsTrialBy (m : Memory) (layouts : List Layout) (k : Known) (t : Trial) : Type 0 where
  pub known_is : t.known ≡ k
  pub told : FirstTells m (sources_of t.known) (Ok (Some t.version))
  pub chosen : IsChosen layouts t.version t.layout

-- a sum over what was never reached is 0
abbrev pub cost_of : {T : Type 0} → (T → ℕ) → Option T → ℕ
cost_of cost None = 0
cost_of cost (Some x) = cost x

-- the reads of the candidates, up to and with the first that is an interpreter's
abbrev pub trial_cost : (ℕ → Bool) → Memory → Trial → ℕ
trial_cost contains m t = search_cost contains t.layout m (candidates_of t.known t.version t.layout m)

-- what a search owes by what is known of a process: it makes at most `n` reads and those of the candidates that it
-- tries, each of fewer than 65536 bytes or of exactly a section, and `Q` holds of every memory that covers them
pub record Trying (k : Known) (IsTrialHere : Trial → Type 0) (contains : ℕ → Bool) (n : ℕ) (old new : Seen)
    (Q : Memory → Type 0) : Type 0 where
  pub tried : Option Trial
  pub is : IfSome tried IsTrialHere
  pub reading : ReadingOf (IsSearched k) (n + cost_of (trial_cost contains (byte_at old.pieces)) tried) old new Q

-- the reads of the stacks of what was found beside the 13 that each takes: 2 for each thread that is met, 9 for each
-- member, 4 for each variable, 8 for each visit of a value, and 12 for each slot
abbrev pub finding_cost : Config → Memory → Finding → ℕ
finding_cost c m f =
    2 * threads_walked (asked_of c) f.layout m f.addresses.lock f.addresses.interpreter
    + 9 * members_walked (asked_of c) f.layout m f.addresses.lock f.addresses.interpreter
    + 4 * locals_walked (asked_of c) f.layout m f.addresses.lock f.addresses.interpreter
    + 8 * values_met c f.layout m f.addresses.lock f.addresses.interpreter
    + 12 * slots_named (asked_of c) f.layout m f.addresses.lock f.addresses.interpreter

-- what a report over a memory owes by what is known of its process: it makes at most 10 reads for the search and 13
-- for the stacks, those of the candidates that it tries and of the stacks of what it found, each of fewer than 65536
-- bytes or of exactly a section, and `Q` holds of every memory that covers them
pub record Reporting (k : Known) (IsTrialHere : Trial → Type 0) (IsFoundHere : Finding → Type 0) (contains : ℕ → Bool)
    (config : Config)
    (old new : Seen) (Q : Memory → Type 0) : Type 0 where
  pub tried : Option Trial
  pub is_tried : IfSome tried IsTrialHere
  pub found : Option Finding
  pub is_found : IfSome found IsFoundHere
  pub reading : ReadingOf (IsSearched k) (10 + 13 + (cost_of (trial_cost contains (byte_at old.pieces)) tried
      + cost_of (finding_cost config (byte_at old.pieces)) found)) old new Q

-- the report of what is known of a process, or the first cause: of the search, of the stacks
abbrev pub AfterKnown : List ℕ → Memory → (ℕ → Bool) → List Layout → Config → Known → Result Reported CoreError → Type 0
AfterKnown bytes m contains layouts config k =
    Then (AfterImages m (machine_of bytes) contains layouts k) (λ f. Then (StacksSay m f config) (IsTold bytes f))

-- how far a report comes: what is dumped, by what candidates are tried, and what is found
pub record Reached : Type 0 where
  pub dumped : Dumped
  pub trial : Option Trial
  pub finding : Option Finding

-- how far the search in a core came: its memory, the trial of candidates, and what was found
pub record IsReached (bytes : List ℕ) (images : Pushed) (layouts : List Layout) (r : Reached) : Type 0 where
  pub dumped : IsDumped bytes images r.dumped
  pub trial : IfSome r.trial (IsTrial (memory_in r.dumped) r.dumped.maps images layouts)
  pub finding : IfSome r.finding (IsFound (memory_in r.dumped) (machine_of bytes) r.dumped.maps images layouts)

-- at most how many reads the search in a core takes
abbrev pub reached_cost : Config → Reached → ℕ
reached_cost c r = cost_of (trial_cost (in_maps r.dumped.maps) (memory_in r.dumped)) r.trial
    + cost_of (finding_cost c (memory_in r.dumped)) r.finding

-- no test of a candidate takes more reads than a walk of 4096 threads of 16384 members each, whatever the memory
-- holds, as cyclic chains
abbrev pub TestsEnd : Reached → Type 0
TestsEnd r = (layout : Layout) (candidate : ℕ)
    → candidate_cost (in_maps r.dumped.maps) layout (memory_in r.dumped) candidate ≤ 3 + 4096 * (2 + 6 * 16384)

-- a counter rises by at most 10 for the search and 13 for the stacks, and what the candidates that are tried and the
-- stacks of what is found take
pub record IsCounted (bytes : List ℕ) (images : Pushed) (layouts : List Layout) (config : Config)
    (old new : ℕ) : Type 0 where
  pub reached : Option Reached
  pub is : IfSome reached (IsReached bytes images layouts)
  pub most : new ≤ old + (10 + 13 + cost_of (reached_cost config) reached)
  pub tests_end : IfSome reached TestsEnd
