-- What files mean, and when they may answer an error.
use Rattle.std.specs.Prelude.{◌≡◌, ℕ, ◌+◌, ◌^◌, ◌<◌, ◌≤◌, ◌==◌, Bool, nat_lt, ◌&&◌, if◌then◌else◌, List, [], ◌∷◌, ◌++◌}
use Rattle.std.specs.Prelude.{length, map, Option, Some, None, IfSome, Result, Ok, Err, Vec, bytes_eq}
use Rattle.std.specs.Global.{Global}
use Rattle.std.specs.List.{list_any}
use Rattle.std.specs.Map.{lookup}
use Rattle.outside.specs.Counts.{last_count, count_after}
use Rattle.outside.specs.declared.faults.FileFault.{FileFault}
use Rattle.outside.specs.declared.faults.FileFault.TheVariants.{Failed, TooLong, OutOfMemory}

-- the most bytes of a file
abbrev pub file_limit : ℕ
file_limit = 2 ^ 36

-- a count rose by more than the limit of a file, or stands at its end
abbrev pub RoseByMore : ℕ → ℕ → Type 0
RoseByMore before now = count_after before (file_limit + 1) ≤ now

-- names with their bytes, where an object tells them
abbrev pub Told : Type 0
Told = Option (List (List ℕ × List ℕ))

-- the bytes of a name; its first entry counts
abbrev pub held_bytes : List (List ℕ × List ℕ) → List ℕ → Option (List ℕ)
held_bytes files name = lookup (λ held. bytes_eq held name) files

-- these are the bytes of the name, where the object tells them
abbrev pub Gives : Told → List ℕ → List ℕ → Type 0
Gives told name bytes = IfSome told (λ files. held_bytes files name ≡ Some bytes)

-- names that could not be read, each with its fault
abbrev pub FailedNames : Type 0
FailedNames = List (List ℕ × FileFault)

-- what files mean: the names with their bytes, where they are told, the names that failed, and how many bytes
-- were taken
pub record FilesSeen : Type 0 where
  pub told : Told
  pub failed : FailedNames
  pub taken : ℕ

-- files of which nothing is told, before the first call
abbrev pub untouched_files : FilesSeen
untouched_files = record { told = None; failed = []; taken = 0 }

-- what the list of failed names gains by a fault: nothing by out of memory
abbrev pub failed_name : List ℕ → FileFault → FailedNames
failed_name name Failed = (name, Failed) ∷ []
failed_name name TooLong = (name, TooLong) ∷ []
failed_name name OutOfMemory = []

-- and by an answer
abbrev pub gained : {T : Type 0} → List ℕ → Result T FileFault → FailedNames
gained name (Ok _) = []
gained name (Err fault) = failed_name name fault

-- the name has more bytes than the limit where they are told; else more were taken
abbrev pub IsTooLong : Told → List ℕ → ℕ → ℕ → Type 0
IsTooLong (Some files) name before now = (bytes : List ℕ) × (held_bytes files name ≡ Some bytes)
    × (file_limit < length bytes)
IsTooLong None name before now = RoseByMore before now

-- files in memory: names with their bytes, the numbers of the calls that are to fail, how many calls there
-- were, the names that failed, and how many bytes were taken
pub record HeldFiles : Type 0 where
  pub files : List (List ℕ × List ℕ)
  pub failing : List ℕ
  pub calls : ℕ
  pub failed : FailedNames
  pub taken : ℕ

-- what they mean
abbrev pub held_seen : HeldFiles → FilesSeen
held_seen held = record { told = Some held.files; failed = held.failed; taken = held.taken }

-- names and bytes that are held, as lists
abbrev pub entries : List (List ℕ × Vec ℕ Global) → List (List ℕ × List ℕ)
entries files = map (λ f. (f.0, f.1.items)) files

-- files before the first call
abbrev pub unread_files : List (List ℕ × List ℕ) → List ℕ → HeldFiles
unread_files files failing = record { files = files; failing = failing; calls = 0; failed = []; taken = 0 }

-- whether the call of this number is to fail; the last number is that of many calls, and of none that fails
abbrev pub is_listed : List ℕ → ℕ → Bool
is_listed failing call = nat_lt call last_count && list_any (λ listed. listed == call) failing

-- the bytes of a held file, or that it is too long, or isn't held
abbrev pub held_file : Option (List ℕ) → Result (List ℕ) FileFault
held_file None = Err Failed
held_file (Some bytes) = if nat_lt file_limit (length bytes) then Err TooLong else Ok bytes

-- what a call answers where there is memory
abbrev pub file_answer : HeldFiles → List ℕ → Result (List ℕ) FileFault
file_answer held name = if is_listed held.failing held.calls then Err Failed else held_file (held_bytes held.files name)

-- the bytes taken after an answer
abbrev pub taken_after : ℕ → Result (Vec ℕ Global) FileFault → ℕ
taken_after taken (Ok bytes) = count_after taken (length bytes.items)
taken_after taken (Err _) = taken

-- what a call for this name with this answer leaves of files
pub record HasRead (old : HeldFiles) (name : List ℕ) (answer : Result (Vec ℕ Global) FileFault)
    (new : HeldFiles) : Type 0 where
  pub files : new.files ≡ old.files
  pub failing : new.failing ≡ old.failing
  pub calls : new.calls ≡ count_after old.calls 1
  pub failed : new.failed ≡ old.failed ++ gained name answer
  pub taken : new.taken ≡ taken_after old.taken answer
