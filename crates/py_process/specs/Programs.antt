-- The program of a process and Python's library, by the maps, and what their images say. Which maps they are is
-- this project's own rule, after py-spy.
use Rattle.std.specs.Prelude.{◌≡◌, List, ℕ, [], ◌∷◌, ◌++◌, All, Option, Some, None, IsSome, unwrap_or, Result, Ok, Err}
use Rattle.std.specs.Prelude.{⊤}
use Rattle.std.specs.Int.{IsBitSet}
use Rattle.image_memory.specs.Images.{Pushed, first_under}
use Rattle.image_memory.specs.Mmap.{Mapped, shown_bytes}
use Rattle.image_memory.specs.declared.maps.CoreMapRange.{CoreMapRange}
use Rattle.py_process.specs.Binary.{SaysFacts}
use Rattle.py_process.specs.Facts.{Facts, Known}
use Rattle.py_process.specs.Library.{IsLibrary}
use Rattle.py_process.specs.declared.core_error.CoreError.{CoreError}
use Rattle.py_process.specs.declared.core_error.CoreError.TheVariants.{NoBinary, NoImage, BadImage, OutOfMemory}

-- ---- which maps they are

-- an executable map whose file has a name
pub record IsProgram (m : CoreMapRange) : Type 0 where
  pub executable : IsBitSet m.segment.flags 0
  pub named : IsSome m.pathname

-- an executable map whose file has the name of Python's library
pub record IsLibraryMap (m : CoreMapRange) : Type 0 where
  pub executable : IsBitSet m.segment.flags 0
  pub name : List ℕ
  pub named : m.pathname ≡ Some name
  pub library : IsLibrary name

-- the first of some maps that is so
pub record IsFirstMap (Is : CoreMapRange → Type 0) (maps : List CoreMapRange) (m : CoreMapRange) : Type 0 where
  pub before : List CoreMapRange
  pub after : List CoreMapRange
  pub parts : maps ≡ before ++ m ∷ after
  pub is : Is m
  pub none_before : All (λ other. ¬ Is other) before

-- that one, or none where none is so
abbrev pub FirstMapIs : (CoreMapRange → Type 0) → List CoreMapRange → Option CoreMapRange → Type 0
FirstMapIs Is maps None = All (λ m. ¬ Is m) maps
FirstMapIs Is maps (Some m) = IsFirstMap Is maps m

-- the maps of the program and of the library
pub record Programs : Type 0 where
  pub program : CoreMapRange
  pub library : Option CoreMapRange

-- the first executable map whose file has a name, and the first of Python's library
pub record ArePrograms (maps : List CoreMapRange) (p : Programs) : Type 0 where
  pub first_program : IsFirstMap IsProgram maps p.program
  pub first_library : FirstMapIs IsLibraryMap maps p.library

-- the programs of some maps, or that there is none
abbrev pub MapsSay : List CoreMapRange → Result Programs CoreError → Type 0
MapsSay maps (Ok p) = ArePrograms maps p
MapsSay maps (Err NoBinary) = All (λ m. ¬ IsProgram m) maps
MapsSay maps (Err OutOfMemory) = ⊤
MapsSay maps (Err _) = ⊥

-- ---- what their images say

-- the path of a map's file; empty where it has none
abbrev pub path_of : CoreMapRange → List ℕ
path_of m = unwrap_or m.pathname []

-- the image of a map is handed in, and says this
pub record ImageSays (images : Pushed) (m : CoreMapRange) (facts : Facts) : Type 0 where
  pub image : Mapped
  pub held : first_under (path_of m) images ≡ Some image
  pub says : SaysFacts (shown_bytes image) m.segment.addr m.segment.mem_size facts

-- what the image of a map says; nothing where it isn't handed in, or says nothing
abbrev pub FactsAre : Pushed → CoreMapRange → Option Facts → Type 0
FactsAre images m None = (facts : Facts) → ¬ ImageSays images m facts
FactsAre images m (Some facts) = ImageSays images m facts

-- the same of a map that there may be
abbrev pub FactsOf : Pushed → Option CoreMapRange → Option Facts → Type 0
FactsOf images None facts = facts ≡ None
FactsOf images (Some m) facts = FactsAre images m facts

-- the map whose image is needed: the library's, where one is mapped
abbrev pub needed_map : Programs → CoreMapRange
needed_map p = unwrap_or p.library p.program

-- what is known by the images; the needed one says something, and the other one may be missing or bad
pub record IsKnown (images : Pushed) (p : Programs) (k : Known) : Type 0 where
  pub program_says : FactsAre images p.program k.program
  pub library_says : FactsOf images p.library k.library
  pub path_is : k.path ≡ path_of p.program
  pub facts : Facts
  pub needed_says : ImageSays images (needed_map p) facts

-- the image of a map is handed in, and says nothing
pub record IsBadImage (images : Pushed) (m : CoreMapRange) : Type 0 where
  pub image : Mapped
  pub held : first_under (path_of m) images ≡ Some image
  pub none : (facts : Facts) → ¬ ImageSays images m facts

-- what is known by the images, or what is wrong with the needed one
abbrev pub ImagesSay : Pushed → Programs → Result Known CoreError → Type 0
ImagesSay images p (Ok k) = IsKnown images p k
ImagesSay images p (Err (NoImage path)) = (path ≡ path_of (needed_map p)) × (first_under path images ≡ None)
ImagesSay images p (Err (BadImage path)) = (path ≡ path_of (needed_map p)) × IsBadImage images (needed_map p)
ImagesSay images p (Err OutOfMemory) = ⊤
ImagesSay images p (Err _) = ⊥
