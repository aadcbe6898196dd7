-- The build id that a file is reported with.
use Rattle.std.specs.Prelude.{◌≡◌, ℕ, Bool, true, false, List, Option, Some, None, Ok, Err}
use Rattle.elf64_core.specs.BuildIds.{FoundBuildId, FileHoldsBuildId}
use Rattle.image_memory.specs.Images.{Pushed, first_under}
use Rattle.image_memory.specs.Mmap.{Mapped, shown_bytes}
use Rattle.maps_text.specs.declared.entry.MapsEntry.{MapsEntry}

-- none where the file is bad
abbrev pub id_in : FoundBuildId → Option (List ℕ)
id_in (Ok id) = id
id_in (Err error) = None

-- the build id in the bytes of a file; none where they have none or are bad
pub record FileHasId (bytes : List ℕ) (id : Option (List ℕ)) : Type 0 where
  pub found : FoundBuildId
  pub says : FileHoldsBuildId bytes found
  pub is : id ≡ id_in found

-- an image has this build id; none where there is no image
abbrev pub ImageHasId : Option Mapped → Option (List ℕ) → Type 0
ImageHasId None id = id ≡ None
ImageHasId (Some image) id = FileHasId (shown_bytes image) id

-- that of the image under a path, where build ids are on
abbrev pub SoughtId : Bool → Pushed → List ℕ → Option (List ℕ) → Type 0
SoughtId false images path id = id ≡ None
SoughtId true images path id = ImageHasId (first_under path images) id

-- the build id that an entry has itself
abbrev pub own_id : Option MapsEntry → Option (List ℕ)
own_id None = None
own_id (Some entry) = entry.build_id

-- the entry's own, or else the one that is sought
abbrev pub IsBuildId : Bool → Pushed → List ℕ → Option (List ℕ) → Option (List ℕ) → Type 0
IsBuildId build_ids images path (Some own) id = id ≡ Some own
IsBuildId build_ids images path None id = SoughtId build_ids images path id
