-- Files that are asked for in turn, by their names, and what they hold.
use Rattle.std.specs.Prelude.{◌≡◌, ◌≢◌, ⊤, ℕ, List, [], ◌∷◌, ◌++◌, Result, Ok, Err, Vec}
use Rattle.std.specs.Global.{Global}
use Rattle.outside.specs.Files.{FilesSeen, Gives, Told}
use Rattle.outside.specs.declared.faults.FileFault.{FileFault}
use Rattle.outside.specs.declared.faults.FileFault.TheVariants as fault
pub use Rattle.named_images.specs.Named.{contents}
use Rattle.program_run.specs.declared.core_files.CoreFiles.{CoreFiles}
use Rattle.program_run.specs.declared.trouble.FileTrouble.{FileTrouble}
use Rattle.program_run.specs.declared.trouble.FileTrouble.TheVariants.{File, OutOfMemory}
use Rattle.program_run.specs.declared.trouble.Trouble.{Trouble}
use Rattle.program_run.specs.declared.trouble.Trouble.TheVariants as run

-- the files of these names have these bytes, in order, where files tell them
abbrev pub AreRead : Told → List (List ℕ) → List (List ℕ) → Type 0
AreRead told [] [] = ⊤
AreRead told [] (bytes ∷ rest) = ⊥
AreRead told (name ∷ names) [] = ⊥
AreRead told (name ∷ names) (bytes ∷ rest) = Gives told name bytes × AreRead told names rest

-- of some files that are asked for in turn this is one, and those before it are read as they are told
pub record AsksAmong (told : Told) (names : List (List ℕ)) (name : List ℕ) : Type 0 where
  pub before : List (List ℕ)
  pub behind : List (List ℕ)
  pub are : names ≡ before ++ name ∷ behind
  pub contents : List (List ℕ)
  pub read : AreRead told before contents

-- ---- as they are read

-- this file could not be read, which is asked for by what is so of those that are
pub record IsUnread (Asks : List ℕ → Type 0) (old new : FilesSeen) (name : List ℕ) (why : FileFault) : Type 0 where
  pub asks : Asks name
  pub not_memory : why ≢ fault.OutOfMemory
  pub failed : new.failed ≡ old.failed ++ (name, why) ∷ []

-- what reading files that are asked for may leave: one that could not be read, or out of memory
abbrev pub IsUnreadTrouble : (List ℕ → Type 0) → FilesSeen → FilesSeen → FileTrouble → Type 0
IsUnreadTrouble Asks old new (File n why) = IsUnread Asks old new n.now why
IsUnreadTrouble Asks old new OutOfMemory = new.failed ≡ old.failed

-- files of these names hold these contents, and none failed
pub record HasAll (old new : FilesSeen) (names contents : List (List ℕ)) : Type 0 where
  pub read : AreRead old.told names contents
  pub failed : new.failed ≡ old.failed

-- what reading them answers
abbrev pub HasFiles : FilesSeen → FilesSeen → List (List ℕ) → Result (Vec (Vec ℕ Global) Global) FileTrouble → Type 0
HasFiles old new names (Ok files) = HasAll old new names (contents files.items)
HasFiles old new names (Err trouble) = IsUnreadTrouble (AsksAmong old.told names) old new trouble

-- what the files of a core hold, in the order in which they are asked for
abbrev pub core_contents : CoreFiles → List (List ℕ)
core_contents files = files.core.items ∷ files.layouts.items ∷ contents files.images.items

-- the files of a core were read, or the first that can't be
abbrev pub HasCoreFiles : FilesSeen → FilesSeen → List (List ℕ) → Result CoreFiles FileTrouble → Type 0
HasCoreFiles old new names (Ok files) = HasAll old new names (core_contents files)
HasCoreFiles old new names (Err trouble) = IsUnreadTrouble (AsksAmong old.told names) old new trouble

-- what is wrong with a run where a file is not read, of a program in which this cause is out of memory
abbrev pub trouble_of : {Cause : Type 0} → Cause → FileTrouble → Trouble Cause
trouble_of memory (File name why) = run.File name why
trouble_of memory OutOfMemory = run.Cause memory
