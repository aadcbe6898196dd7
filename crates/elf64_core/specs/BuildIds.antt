-- Build ids: the descriptor of the first note of type 3 in the note sections, in table order. GNU's linkers
-- write it so; that the notes' owners aren't looked at, and which faults come before it, are this project's
-- own rules.
use Rattle.std.specs.Prelude.{◌≡◌, ◌≢◌, ◌⊎◌, ℕ, ◌<◌, ◌≤◌, nat_eq, List, [], ◌∷◌, length, All, Option, Some, None}
use Rattle.std.specs.Prelude.{option_copied, Result, Ok, Err, MatchOption}
use Rattle.std.specs.Bool.{MatchBool}
use Rattle.std.specs.Borrow.{Bor}
use Rattle.elf64_core.specs.Header.{IsElf64, HasSegments, IsAccepted}
use Rattle.elf64_core.specs.Sections.{HasSections, sections_of, contents_of}
use Rattle.elf64_core.specs.Notes.{Noted, IsNote, BeginsNoNote, NotesThen}
use Rattle.elf64_core.specs.declared.section.Section.{Section}
use Rattle.elf64_core.specs.declared.error.ElfError.{ElfError}
use Rattle.elf64_core.specs.declared.error.ElfError.TheVariants.{NotElf64, BadHeader, BadNote, OutOfMemory}

-- what is found: a build id or none, or why the search ends before it
abbrev pub FoundBuildId : Type 0
FoundBuildId = Result (Option (List ℕ)) ElfError

-- a result that borrows the build id, as what is found
abbrev pub found : Result (Option (Bor (List ℕ))) ElfError → FoundBuildId
found (Ok id) = Ok (option_copied id)
found (Err error) = Err error

-- `NT_GNU_BUILD_ID`, the type of a note with a build id (binutils, elf/common.h)
abbrev pub build_id_kind : ℕ
build_id_kind = 3

-- a note of another type than a build id's
abbrev pub IsOther : Noted → Type 0
IsOther note = note.kind ≢ build_id_kind

-- what is found where these bytes come next: the build id that a note here has; none, as nothing but a tail
-- of fewer bytes than a note's header is left; or a bad note, as no note stands here
abbrev pub Ends : List ℕ → FoundBuildId → Type 0
Ends bytes (Ok (Some id)) = (after : List ℕ) × IsNote bytes after (record { kind = build_id_kind; desc = id })
Ends bytes (Ok None) = length bytes < 12
Ends bytes (Err BadNote) = (12 ≤ length bytes) × BeginsNoNote bytes
Ends bytes (Err NotElf64) = ⊥
Ends bytes (Err BadHeader) = ⊥
Ends bytes (Err OutOfMemory) = ⊥

-- what is found in the bytes of a note section: after notes of other types
pub record NotesHoldBuildId (bytes : List ℕ) (result : FoundBuildId) : Type 0 where
  pub before : List Noted
  pub rest : List ℕ
  pub up_to : NotesThen bytes before rest
  pub others : All IsOther before
  pub ends : Ends rest result

-- `SHT_NOTE`, the type of a section of notes (gABI, "Section Header")
abbrev pub note_section_kind : ℕ
note_section_kind = 7

-- what is found in a section: nothing in one of another kind
abbrev pub SectionSays : List ℕ → Section → FoundBuildId → Type 0
SectionSays bytes section result =
    MatchBool (nat_eq section.kind note_section_kind)
    (MatchOption (contents_of bytes section) (result ≡ Err BadHeader) (λ contents. NotesHoldBuildId contents result))
    (result ≡ Ok None)

-- what is found in sections, one by one: what the first says that doesn't say none
abbrev pub SectionsSay : List ℕ → List Section → FoundBuildId → Type 0
SectionsSay bytes [] result = result ≡ Ok None
SectionsSay bytes (section ∷ sections) result =
    (SectionSays bytes section result × (result ≢ Ok None))
    ⊎ (SectionSays bytes section (Ok None) × SectionsSay bytes sections result)

-- what is found in a file that is accepted
abbrev pub BuildIdIs : List ℕ → FoundBuildId → Type 0
BuildIdIs bytes result =
    ((¬ HasSections bytes) × (result ≡ Err BadHeader))
    ⊎ (HasSections bytes × SectionsSay bytes (sections_of bytes) result)

-- what is found in any bytes: a file that isn't accepted is refused first
abbrev pub FileHoldsBuildId : List ℕ → FoundBuildId → Type 0
FileHoldsBuildId bytes result =
    ((¬ IsElf64 bytes) × (result ≡ Err NotElf64))
    ⊎ (IsElf64 bytes × (¬ HasSegments bytes) × (result ≡ Err BadHeader))
    ⊎ (IsAccepted bytes × BuildIdIs bytes result)
