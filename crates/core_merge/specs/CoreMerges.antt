-- The frames of a thread of a core, merged with native addresses that come as a text.
use Rattle.std.specs.Prelude.{◌≡◌, ◌⊎◌, ℕ, Bool, true, false, List, Result, Err}
use Rattle.std.specs.List.{list_any}
use Rattle.image_memory.specs.Images.{Pushed}
use Rattle.maps_text.specs.declared.entry.MapsEntry.{MapsEntry}
use Rattle.normalize_core.specs.Targets.{overflows}
use Rattle.py_stacks.specs.Frames.{Call}
use Rattle.native_merge.specs.ImageSymbols.{files_mapped}
use Rattle.core_merge.specs.Addresses.{AddressesSay}
use Rattle.core_merge.specs.CoreEntries.{EntriesSay}
use Rattle.core_merge.specs.ImageMerges.{ImageMergeSays}
use Rattle.py_process.specs.Steps.{Then}
use Rattle.core_merge.specs.declared.error.CoreMergeError.{CoreMergeError}
use Rattle.core_merge.specs.declared.error.CoreMergeError.TheVariants.{OffsetOverflow}

-- an address's place in its file passes 2^64 - 1, or the frames are merged by these entries and images
abbrev pub MergedBy : Pushed → (ℕ → Bool) → List Call → List ℕ → List MapsEntry
    → Result (List Call) CoreMergeError → Type 0
MergedBy images python frames addrs entries answer =
    ((list_any (overflows entries) addrs ≡ true) × (answer ≡ Err OffsetOverflow))
    ⊎ ((list_any (overflows entries) addrs ≡ false)
    × ImageMergeSays (files_mapped entries images) python frames addrs answer)

-- what merging has to answer, by the maps of a core
abbrev pub MergedWith : List ℕ → Pushed → (ℕ → Bool) → List Call → List ℕ
    → Result (List Call) CoreMergeError → Type 0
MergedWith bytes images python frames addrs = Then (EntriesSay bytes) (MergedBy images python frames addrs)

-- the frames merged with the addresses of a text by a core's maps and its images, or the first cause why they aren't:
-- of the text, of the maps, of an address, of the merge
abbrev pub CoreMergeIs : List ℕ → Pushed → (ℕ → Bool) → List Call → List ℕ
    → Result (List Call) CoreMergeError → Type 0
CoreMergeIs bytes images python frames text = Then (AddressesSay text) (MergedWith bytes images python frames)
