-- What native addresses show by the files that a process had mapped.
use Rattle.std.specs.Prelude.{◌≡◌, ℕ, true, if◌then◌else◌, List, [], ◌∷◌, Option, Some, None, option_map}
use Rattle.bstr.specs.Utf8.{lossy_chars}
use Rattle.elf64_core.specs.Header.{IsAccepted, segments_of}
use Rattle.elf64_core.specs.Symbols.{SymbolEntry}
use Rattle.image_memory.specs.Images.{Pushed, first_under}
use Rattle.image_memory.specs.Mmap.{Mapped, shown_bytes}
use Rattle.maps_text.specs.declared.entry.MapsEntry.{MapsEntry}
use Rattle.normalize_core.specs.FileOffsets.{file_offset_at}
use Rattle.normalize_core.specs.Order.{in_order}
use Rattle.covering_symbols.specs.Covering.{AreImageSymbols, Covering, address_of_place, symbol_name_at}
use Rattle.native_merge.specs.declared.native_frame.NativeFrame.{NativeFrame}
use Rattle.native_merge.specs.Symbols.{SymbolsSeen}

-- the entries of a process's maps, and the images of its files
pub record FilesMapped : Type 0 where
  pub entries : List MapsEntry
  pub images : Pushed

-- the entries of a process's maps with the images of its files
abbrev pub files_mapped : List MapsEntry → Pushed → FilesMapped
files_mapped entries images = record { entries = entries; images = images }

-- the file and the place there that an address is normalized to; none where normalizing refuses the entries
abbrev pub normal_place : List MapsEntry → ℕ → Option (List ℕ × ℕ)
normal_place entries addr = if in_order entries then file_offset_at entries addr else None

-- an address lies at a place of a file whose image is handed in and is an ELF file that is accepted
pub record IsAtFile (files : FilesMapped) (addr : ℕ) (path : List ℕ) (place : ℕ) (bytes : List ℕ) : Type 0 where
  pub at : normal_place files.entries addr ≡ Some (path, place)
  pub image : Mapped
  pub under : first_under path files.images ≡ Some image
  pub shows : bytes ≡ shown_bytes image
  pub accepted : IsAccepted bytes

-- the name of the function that covers an address of a file, where there is such an address
abbrev pub IsNameAt : List ℕ → Option ℕ → Option (List ℕ) → Type 0
IsNameAt bytes None name = name ≡ None
IsNameAt bytes (Some a) name = (symbols : List SymbolEntry) × AreImageSymbols bytes symbols
    × ((found : Option ℕ) × Covering symbols a found × (name ≡ symbol_name_at symbols found))

-- the name of the function that covers the place of a file
abbrev pub IsNameOfPlace : List ℕ → ℕ → Option (List ℕ) → Type 0
IsNameOfPlace bytes place name = IsNameAt bytes (address_of_place (segments_of bytes) place) name

-- the frame of an address in a file
abbrev pub image_frame : ℕ → List ℕ → Option (List ℕ) → NativeFrame
image_frame addr path name = record {
  addr = addr;
  function = option_map lossy_chars name;
  filename = None;
  «module» = lossy_chars path;
  line = None;
}

-- these are the frames of an address
pub record AreImageFrames (files : FilesMapped) (addr : ℕ) (frames : List NativeFrame) : Type 0 where
  pub path : List ℕ
  pub place : ℕ
  pub bytes : List ℕ
  pub file : IsAtFile files addr path place bytes
  pub name : Option (List ℕ)
  pub named : IsNameOfPlace bytes place name
  pub are : frames ≡ image_frame addr path name ∷ []

-- what such files mean: an address at no such file is lacking, each other one has one frame, with lines and without,
-- and no call fails
abbrev pub image_seen : FilesMapped → SymbolsSeen
image_seen files = record {
  lacks = λ addr. (path : List ℕ) (place : ℕ) (bytes : List ℕ) → IsAtFile files addr path place bytes → ⊥;
  tells = true;
  gives = λ addr lines frames. AreImageFrames files addr frames;
  faults = 0;
}
