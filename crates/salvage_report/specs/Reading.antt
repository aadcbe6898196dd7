-- Which files are asked for, in which order.
use Rattle.std.specs.Prelude.{ℕ, List, [], ◌∷◌, ◌++◌, map, Option, Some, None, Result, Ok, Err, Vec}
use Rattle.std.specs.Global.{Global}
use Rattle.outside.specs.Files.{FilesSeen}
use Rattle.program_run.specs.Reading.{AsksAmong, HasAll, IsUnreadTrouble}
use Rattle.program_run.specs.declared.trouble.FileTrouble.{FileTrouble}
use Rattle.salvage_words.specs.Salvage.{Salvage}

-- one or none, as a list
abbrev pub one_or_none : Option (List ℕ) → List (List ℕ)
one_or_none None = []
one_or_none (Some one) = one ∷ []

-- the names of the files of a core: its own, the layout file's, and those of the images
abbrev pub core_files_of : Salvage → List (List ℕ)
core_files_of s = s.core ∷ s.layouts ∷ map (λ image. image.1) s.images

-- the names of all files: that of the records, where there is one, and those of the core
abbrev pub files_of : Salvage → List (List ℕ)
files_of s = one_or_none s.records ++ core_files_of s

-- the bytes of the file of records, where one is named
abbrev pub bytes_of_records : Option (Vec ℕ Global) → Option (List ℕ)
bytes_of_records None = None
bytes_of_records (Some file) = Some file.items

-- what reading the file of records answers
abbrev pub HasRecords : FilesSeen → FilesSeen → Option (List ℕ) → Result (Option (Vec ℕ Global)) FileTrouble → Type 0
HasRecords old new name (Ok file) = HasAll old new (one_or_none name) (one_or_none (bytes_of_records file))
HasRecords old new name (Err trouble) = IsUnreadTrouble (AsksAmong old.told (one_or_none name)) old new trouble
