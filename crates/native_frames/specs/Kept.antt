-- The symbols of files, as they are kept by the files' numbers.
use Rattle.std.specs.Prelude.{◌≡◌, ℕ, List, Option, Some, None}
use Rattle.std.specs.BTreeMap.{BTreeMap, get}
use Rattle.std.specs.Ordering.{nat_cmp}
use Rattle.elf64_core.specs.Symbols.{SymbolEntry}
use Rattle.core_unwind.specs.declared.place.Mapping.{Mapping}
use Rattle.core_unwind.specs.Places.{IsOpened}
use Rattle.native_frames.specs.Naming.{IsKept, bytes_of}

-- what is made of a file that is not at hand, or no ELF file
abbrev pub HasNone : Option (List ℕ) → Type 0
HasNone None = Unit {0}
HasNone (Some bytes) = IsOpened bytes None

-- what is made of the file of a number: its symbols, or nothing
abbrev pub IsMade : List Mapping → ℕ → Option (List SymbolEntry) → Type 0
IsMade mappings file None = HasNone (bytes_of mappings file)
IsMade mappings file (Some symbols) = IsKept mappings file symbols

-- what is kept under a file's number are its symbols
abbrev pub AreKept : List Mapping → BTreeMap ℕ (List SymbolEntry) → Type 0
AreKept mappings kept =
    (file : ℕ) (symbols : List SymbolEntry) → get nat_cmp kept file ≡ Some symbols → IsKept mappings file symbols
