-- Python frames merged with native addresses by what images show of these: without a cache, and without source files.
use Rattle.std.specs.Prelude.{ℕ, Bool, false, List, Result, Ok, Err}
use Rattle.std.specs.List.{AllZip}
use Rattle.py_stacks.specs.Frames.{Call}
use Rattle.native_merge.specs.ImageSymbols.{AreImageFrames, FilesMapped, image_seen}
use Rattle.native_merge.specs.MergedStacks.{merged}
use Rattle.native_merge.specs.Merges.{ShowsMerged, all_items}
use Rattle.native_merge.specs.PythonFrames.{ends_part}
use Rattle.native_merge.specs.SymbolCaches.{Answer}
use Rattle.native_merge.specs.declared.merge_error.MergeError.{MergeError}
use Rattle.native_merge.specs.declared.merge_error.MergeError.TheVariants as merging
use Rattle.native_merge.specs.declared.symbol_fault.SymbolFault.TheVariants.{NoBinary}
use Rattle.core_merge.specs.declared.error.CoreMergeError.{CoreMergeError}
use Rattle.core_merge.specs.declared.error.CoreMergeError.TheVariants.{Mismatch}

-- what the images show of an address: its frame, or that it lies in no file of theirs
abbrev pub IsImageAnswer : FilesMapped → ℕ → Answer → Type 0
IsImageAnswer files addr (Ok frames) = AreImageFrames files addr frames
IsImageAnswer files addr (Err NoBinary) = (image_seen files).lacks addr
IsImageAnswer files addr (Err _) = ⊥

-- no source file exists
abbrev pub nothing_exists : List ℕ → Bool
nothing_exists path = false

-- the frames merged with what is shown of each address, or that they don't fit
pub record IsImageMerge (files : FilesMapped) (python : ℕ → Bool) (frames : List Call) (addrs : List ℕ)
    (answer : Result (List Call) MergeError) : Type 0 where
  pub answers : List Answer
  pub each : AllZip (IsImageAnswer files) addrs answers
  pub shows : ShowsMerged nothing_exists (merged ends_part frames (all_items python addrs answers)) answer

-- what merging by images has to answer: the stack, or that the counts don't fit
abbrev pub ImageMergeSays : FilesMapped → (ℕ → Bool) → List Call → List ℕ
    → Result (List Call) CoreMergeError → Type 0
ImageMergeSays files python frames addrs (Ok shown) = IsImageMerge files python frames addrs (Ok shown)
ImageMergeSays files python frames addrs (Err (Mismatch steps count)) =
    IsImageMerge files python frames addrs (Err (merging.Mismatch steps count))
ImageMergeSays files python frames addrs (Err _) = ⊥
