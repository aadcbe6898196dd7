-- The images whose symbols were read.
use Rattle.std.specs.Prelude.{◌≡◌, ℕ, nat_eq, Bool, List, map, MatchOption, Option, Some, None, option_copied}
use Rattle.std.specs.Cmp.Lexicographic.{pointwise}
use Rattle.elf64_core.specs.Header.{IsAccepted, segments_of}
use Rattle.elf64_core.specs.Symbols.{symbol_entry_of}
use Rattle.image_memory.specs.Images.{Pushed, first_under}
use Rattle.image_memory.specs.Mmap.{Mapped, shown_bytes}
use Rattle.covering_symbols.specs.Covering.{AreImageSymbols}
use Rattle.covering_symbols.specs.FunctionTables.{IsTableOf}
use Rattle.native_merge.specs.ImageSymbols.{IsNameOfPlace}
use Rattle.native_merge.specs.declared.read_images.Covered.{Covered}
use Rattle.native_merge.specs.declared.read_images.ReadFile.{ReadFile}
use Rattle.native_merge.specs.declared.read_images.ReadImage.{ReadImage}

-- its segments and symbols are those of some bytes, and its functions those of its symbols
pub record IsFileOf (bytes : List ℕ) (file : ReadFile) : Type 0 where
  pub segments : file.segments ≡ segments_of bytes
  pub symbols : AreImageSymbols bytes (map symbol_entry_of file.symbols.items)
  pub functions : IsTableOf (map symbol_entry_of file.symbols.items) file.functions

-- what was read of some bytes: those of an ELF file that is accepted, or of none
abbrev pub IsReadOfBytes : List ℕ → Option ReadFile → Type 0
IsReadOfBytes bytes None = IsAccepted bytes → ⊥
IsReadOfBytes bytes (Some file) = IsAccepted bytes × IsFileOf bytes file

-- it is read of the image under its path
pub record IsReadOf (images : Pushed) (read : ReadImage) : Type 0 where
  pub image : Mapped
  pub under : first_under read.path.now images ≡ Some image
  pub is : IsReadOfBytes (shown_bytes image) read.file

-- what was read under a path, where an image stands there
abbrev pub IsReadUnder : Pushed → List ℕ → Option ReadImage → Type 0
IsReadUnder images path None = first_under path images ≡ None
IsReadUnder images path (Some read) = IsReadOf images read × (read.path.now ≡ path)

-- a path is that of an image that was read
abbrev pub is_read_under : List ℕ → ReadImage → Bool
is_read_under path read = pointwise nat_eq read.path.now path

-- what covers a place in some bytes, where these are an ELF file that is accepted
abbrev pub IsLookedUp : List ℕ → ℕ → Option Covered → Type 0
IsLookedUp bytes place None = IsAccepted bytes → ⊥
IsLookedUp bytes place (Some covered) = IsAccepted bytes × IsNameOfPlace bytes place (option_copied covered.name)

-- what covers a place in the image under a path, where one stands there
pub data IsLookedUpUnder (images : Pushed) (path : List ℕ) (place : ℕ) (covered : Option Covered) : Type 0 where
  NoImage : first_under path images ≡ None → covered ≡ None → IsLookedUpUnder images path place covered
  InImage : (image : Mapped) → first_under path images ≡ Some image → IsLookedUp (shown_bytes image) place covered
      → IsLookedUpUnder images path place covered
