-- What is found of a Python process by its memory, its maps and its images, or the first cause why nothing is.
use Rattle.std.specs.Prelude.{◌≡◌, ℕ, List, Contains, Bool, Some, None, Result, Ok, Err, ⊤}
use Rattle.elf64_core.specs.declared.header.Machine.{Machine}
use Rattle.image_memory.specs.Images.{Pushed}
use Rattle.image_memory.specs.Maps.{in_maps}
use Rattle.image_memory.specs.declared.maps.CoreMapRange.{CoreMapRange}
use Rattle.process_memory.specs.Memory.{Memory}
use Rattle.process_memory.specs.Memory.Fault.{Missing}
use Rattle.py_fields.specs.Sound.{Covers}
use Rattle.py_fields.specs.declared.layout.Layout.{Layout}
use Rattle.py_fields.specs.declared.version.Version.{Version}
use Rattle.py_stacks.specs.declared.trace.Addresses.{Addresses}
use Rattle.py_process.specs.Candidates.{IsFirstOf, IsNoneOf, candidates_of}
use Rattle.py_process.specs.Facts.{Known}
use Rattle.py_process.specs.Lock.{lock_address_of}
use Rattle.py_process.specs.Programs.{ArePrograms, ImagesSay, IsKnown, MapsSay, Programs}
use Rattle.py_process.specs.Sources.{FirstTells, sources_of}
use Rattle.py_process.specs.Steps.{Then}
use Rattle.py_process.specs.declared.core_error.CoreError.{CoreError}
use Rattle.py_process.specs.declared.core_error.CoreError.TheVariants.{UnreadableVersion, NoVersion, UnsupportedVersion}
use Rattle.py_process.specs.declared.core_error.CoreError.TheVariants.{NoInterpreter, Unreadable, OutOfMemory}

-- ---- the steps

-- the version that the sources of a process tell, or why there is none
abbrev pub VersionSays : Memory → Known → Result Version CoreError → Type 0
VersionSays m k (Ok version) = FirstTells m (sources_of k) (Ok (Some version))
VersionSays m k (Err (UnreadableVersion addr len)) = FirstTells m (sources_of k) (Err (Missing addr len))
VersionSays m k (Err NoVersion) = FirstTells m (sources_of k) (Ok None)
VersionSays m k (Err OutOfMemory) = ⊤
VersionSays m k (Err _) = ⊥

-- a layout of the list that covers the version
pub record IsChosen (layouts : List Layout) (version : Version) (layout : Layout) : Type 0 where
  pub listed : Contains layouts layout
  pub covers : Covers layout version

-- that layout, or that there is none
abbrev pub LayoutSays : List Layout → Version → Result Layout CoreError → Type 0
LayoutSays layouts version (Ok layout) = IsChosen layouts version layout
LayoutSays layouts version (Err (UnsupportedVersion named)) =
    (named ≡ version) × ((layout : Layout) → ¬ IsChosen layouts version layout)
LayoutSays layouts version (Err OutOfMemory) = ⊤
LayoutSays layouts version (Err _) = ⊥

-- the first candidate that is an interpreter's, or that there is none
abbrev pub SearchSays : Memory → (ℕ → Bool) → Known → Version → Layout → Result ℕ CoreError → Type 0
SearchSays m contains k version layout (Ok a) = IsFirstOf contains layout m (candidates_of k version layout m) a
SearchSays m contains k version layout (Err NoInterpreter) =
    IsNoneOf contains layout m (candidates_of k version layout m)
SearchSays m contains k version layout (Err OutOfMemory) = ⊤
SearchSays m contains k version layout (Err _) = ⊥

-- the version of a process, the layout that covers it, and what comes of these, or the first cause why there is none
abbrev pub VersionThen : {U : Type 0} → Memory → List Layout → Known → (Version → Layout → Result U CoreError → Type 0)
    → Result U CoreError → Type 0
VersionThen m layouts k Rest = Then (VersionSays m k) (λ v. Then (LayoutSays layouts v) (Rest v))

-- The process opened: by the maps its programs, by the images what is known of it, its version, and the layout that
-- covers that; and what comes of these, or the first cause why there is none
abbrev pub ProcessThen : {U : Type 0} → Memory → List CoreMapRange → Pushed → List Layout
    → (Known → Version → Layout → Result U CoreError → Type 0) → Result U CoreError → Type 0
ProcessThen m maps images layouts Rest =
    Then (MapsSay maps) (λ p. Then (ImagesSay images p) (λ k. VersionThen m layouts k (Rest k)))

-- ---- what is found

-- a process: its version, the layout that covers it, and where its interpreter and the lock are
pub record Finding : Type 0 where
  pub version : Version
  pub layout : Layout
  pub addresses : Addresses

-- a finding of these parts
abbrev pub finding : Version → Layout → (interpreter lock : ℕ) → Finding
finding version layout interpreter lock =
    record { version = version; layout = layout; addresses = record { interpreter = interpreter; lock = lock } }

-- the address of the interpreter's lock, or its missing word. The holder alone isn't asked for here
abbrev pub LockSays : Memory → Machine → Known → Version → Layout → ℕ → Result ℕ CoreError → Type 0
LockSays m machine k version layout a (Ok lock) = lock_address_of machine k version layout m a ≡ Ok lock
LockSays m machine k version layout a (Err (Unreadable addr len)) =
    lock_address_of machine k version layout m a ≡ Err (Missing addr len)
LockSays m machine k version layout a (Err OutOfMemory) = ⊤
LockSays m machine k version layout a (Err _) = ⊥

-- a result is the finding of these parts
abbrev pub IsMade : Version → Layout → (interpreter lock : ℕ) → Result Finding CoreError → Type 0
IsMade version layout interpreter lock result = result ≡ Ok (finding version layout interpreter lock)

-- what is found where the interpreter is known: its lock, or the cause why there is none
abbrev pub AfterSearch : Memory → Machine → Known → Version → Layout → ℕ → Result Finding CoreError → Type 0
AfterSearch m machine k version layout a = Then (LockSays m machine k version layout a) (IsMade version layout a)

-- what is found in an opened process: its interpreter is looked for, and then the lock. `contains` tests whether a map
-- holds an address
abbrev pub FindsIn : Memory → Machine → (ℕ → Bool) → Known → Version → Layout → Result Finding CoreError → Type 0
FindsIn m machine contains k version layout =
    Then (SearchSays m contains k version layout) (AfterSearch m machine k version layout)

-- what is found by what is known of a process
abbrev pub AfterImages : Memory → Machine → (ℕ → Bool) → List Layout → Known → Result Finding CoreError → Type 0
AfterImages m machine contains layouts k = VersionThen m layouts k (FindsIn m machine contains k)

-- what is found, or the first cause: of the maps, the images, the version, the layouts, the search, the lock
abbrev pub FindingIs : Memory → Machine → List CoreMapRange → Pushed → List Layout → Result Finding CoreError → Type 0
FindingIs m machine maps images layouts = ProcessThen m maps images layouts (FindsIn m machine (in_maps maps))

-- ---- the same where something is found, in one record

-- a process in which this is found, each part the first that qualifies
pub record IsFound (m : Memory) (machine : Machine) (maps : List CoreMapRange) (images : Pushed)
    (layouts : List Layout) (f : Finding) : Type 0 where
  pub programs : Programs
  pub are_programs : ArePrograms maps programs
  pub known : Known
  pub is_known : IsKnown images programs known
  -- the version is the first that a source tells
  pub told : FirstTells m (sources_of known) (Ok (Some f.version))
  pub chosen : IsChosen layouts f.version f.layout
  -- the interpreter is the first candidate that is one
  pub first : IsFirstOf (in_maps maps) f.layout m (candidates_of known f.version f.layout m) f.addresses.interpreter
  -- the lock is its lock
  pub lock : lock_address_of machine known f.version f.layout m f.addresses.interpreter ≡ Ok f.addresses.lock
