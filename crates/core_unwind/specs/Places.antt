-- Where an address stands: the first mapping that holds it says which byte of a file, and the file's program headers
-- which of its own addresses, by the System V gABI. That the first one is taken, and code alone, are this project's
-- rules.
use Rattle.std.specs.Prelude.{◌≡◌, ◌⊎◌, ℕ, ◌+◌, ◌-◌, ◌%◌, ◌^◌, nat_le, nat_lt, ◌==◌, ◌&&◌, Bool, List, Option, Some}
use Rattle.std.specs.Prelude.{None}
use Rattle.std.specs.Prelude.{Result, Ok, Err, if◌then◌else◌, option_and_then, option_copied}
use Rattle.std.specs.List.{find}
use Rattle.elf64_core.specs.Header.{IsAccepted, load_kind, segments_of}
use Rattle.elf64_core.specs.declared.segment.Segment.{Segment}
use Rattle.core_unwind.specs.declared.end.End.{End}
use Rattle.core_unwind.specs.declared.end.End.TheVariants.{NoFile, NoTable}
use Rattle.core_unwind.specs.declared.place.CodePlace.{CodePlace}
use Rattle.core_unwind.specs.declared.place.Mapping.{Mapping}
use Rattle.core_unwind.specs.declared.place.Spot.{Spot}

-- a mapping holds an address
abbrev pub holds : ℕ → Mapping → Bool
holds address m = nat_le m.start address && nat_lt address m.end

-- a segment of code holds a place of the file by its file bytes
abbrev pub holds_code : ℕ → Segment → Bool
holds_code place s =
    s.kind == load_kind && (s.flags % 2 == 1 && (nat_le s.offset place && nat_lt (place - s.offset) s.file_size))

-- a number, where it fits in 64 bits
abbrev pub word_or_none : ℕ → Option ℕ
word_or_none n = if nat_lt n (2 ^ 64) then Some n else None

-- the address of a place in a segment
abbrev pub moved : ℕ → Segment → Option ℕ
moved place s = word_or_none (s.addr + (place - s.offset))

-- a file as ELF, where it is accepted as that
abbrev pub IsOpened : List ℕ → Option (List ℕ) → Type 0
IsOpened file result = ((¬ IsAccepted file) × (result ≡ None)) ⊎ (IsAccepted file × (result ≡ Some file))

-- the file's own address of a place: by the first segment of code that holds it, where the file is ELF
abbrev pub address_in : Option (List ℕ) → ℕ → Option ℕ
address_in None place = None
address_in (Some file) place = option_and_then (moved place) (find (holds_code place) (segments_of file))

-- the address of a place that is code
pub record IsCodeAddress (file : List ℕ) (place : ℕ) (address : Option ℕ) : Type 0 where
  pub elf : Option (List ℕ)
  pub opened : IsOpened file elf
  pub is : address ≡ address_in elf place

-- where an address stands, and the bytes of the file
pub record Site : Type 0 where
  pub place : CodePlace
  pub bytes : List ℕ

-- where an address stands, by the file's own address of it; without one no table covers it
abbrev pub site_in : (at file : ℕ) → List ℕ → Option ℕ → Result Site End
site_in at file bytes None = Err (NoTable at)
site_in at file bytes (Some address) = Ok (record { place = record { file = file; address = address }; bytes = bytes })

-- in a file that is at hand, of which a byte stands there
abbrev pub IsSpotAt : (at file : ℕ) → List ℕ → Option ℕ → Result Site End → Type 0
IsSpotAt at file bytes None answer = answer ≡ Err (NoTable at)
IsSpotAt at file bytes (Some place) answer =
    (address : Option ℕ) × IsCodeAddress bytes place address × (answer ≡ site_in at file bytes address)

-- in a mapped file, at a place of it; where the file is not at hand, the stack ends
abbrev pub IsSpotOf : (at file place : ℕ) → Option (List ℕ) → Result Site End → Type 0
IsSpotOf at file place None answer = answer ≡ Err (NoFile at)
IsSpotOf at file place (Some bytes) answer = IsSpotAt at file bytes (word_or_none place) answer

-- in the mapping that holds the address; where none does, the stack ends
abbrev pub IsSpotIn : ℕ → Option Mapping → Result Site End → Type 0
IsSpotIn at None answer = answer ≡ Err (NoFile at)
IsSpotIn at (Some m) answer = IsSpotOf at m.file (m.offset + (at - m.start)) (option_copied m.bytes) answer

-- where an address stands, or how a stack ends there
abbrev pub IsSpot : List Mapping → ℕ → Result Site End → Type 0
IsSpot mappings at answer = IsSpotIn at (find (holds at) mappings) answer

-- ---- as it is read

-- a place that was found, with the bytes of its file
abbrev pub site_of : Spot → Site
site_of s = record { place = s.place; bytes = s.bytes.now }

-- the answer of a look-up: a site, or how a stack ends there
abbrev pub spot_of : Result Spot End → Result Site End
spot_of (Ok spot) = Ok (site_of spot)
spot_of (Err end) = Err end
