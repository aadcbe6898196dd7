-- What a core's bytes must be, and why others are refused.
use Rattle.std.specs.Prelude.{◌≡◌, ◌≢◌, List, [], ℕ, ⊤}
use Rattle.elf64_core.specs.Header.{HasSegments, IsAccepted, IsElf64}
use Rattle.elf64_core.specs.Notes.{Noted}
use Rattle.image_memory.specs.FileTables.{Entry}
use Rattle.image_memory.specs.Notes.{AreCoreNotes, note_segments}
use Rattle.image_memory.specs.declared.dump_error.DumpError.{DumpError}
use Rattle.image_memory.specs.declared.dump_error.DumpError.TheVariants.{NotElf64, BadHeader, NoNotes, BadNote}
use Rattle.image_memory.specs.declared.dump_error.DumpError.TheVariants.{OutOfMemory}

-- an ELF64 file whose segments can be read, with a note segment at least
pub record HasNotes (bytes : List ℕ) : Type 0 where
  pub accepted : IsAccepted bytes
  pub noted : note_segments bytes ≢ []

-- the bytes are those of a core dump: one of those, whose notes can be read
pub record IsCore (bytes : List ℕ) : Type 0 where
  pub accepted : IsAccepted bytes
  pub noted : note_segments bytes ≢ []
  pub notes : List Noted
  pub entries : List Entry
  pub found : AreCoreNotes bytes notes entries

-- a note, a status or process record or a file table is too short, or a table has fewer names than it says
abbrev pub HasBadNote : List ℕ → Type 0
HasBadNote bytes = (notes : List Noted) (entries : List Entry) → AreCoreNotes bytes notes entries → ⊥

-- the bytes are refused by this error, in the order of the errors; out of memory may always be answered
abbrev pub RefusesCore : List ℕ → DumpError → Type 0
RefusesCore bytes NotElf64 = ¬ IsElf64 bytes
RefusesCore bytes BadHeader = IsElf64 bytes × ¬ HasSegments bytes
RefusesCore bytes NoNotes = IsAccepted bytes × (note_segments bytes ≡ [])
RefusesCore bytes BadNote = HasNotes bytes × HasBadNote bytes
RefusesCore bytes OutOfMemory = ⊤

-- the errors in whose place out of memory never comes
abbrev pub IsEarly : DumpError → Type 0
IsEarly NotElf64 = ⊤
IsEarly BadHeader = ⊤
IsEarly NoNotes = ⊤
IsEarly BadNote = ⊥
IsEarly OutOfMemory = ⊥
