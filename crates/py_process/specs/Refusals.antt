-- Why an image says nothing, in the order in which the causes are looked for.
use Rattle.std.specs.Prelude.{◌≡◌, ◌⊎◌, ℕ, List, Some, None, ⊤}
use Rattle.elf64_core.specs.Header.{HasSegments, IsAccepted, IsElf64}
use Rattle.elf64_core.specs.Sections.{HasSections, sections_of}
use Rattle.elf64_core.specs.Symbols.{HasSymbols}
use Rattle.elf64_core.specs.declared.section.Section.{Section}
use Rattle.elf64_core.specs.declared.segment.Segment.{Segment}
use Rattle.elf64_core.specs.declared.symbol.SymbolKind.TheVariants.{Plain, Dynamic}
use Rattle.py_process.specs.declared.binary_error.BinaryError.{BinaryError}
use Rattle.py_process.specs.declared.binary_error.BinaryError.TheVariants.{NotElf64, BadHeader, NoBss, NoExecutable}
use Rattle.py_process.specs.declared.binary_error.BinaryError.TheVariants.{BadBss, OutOfMemory}
use Rattle.py_process.specs.declared.ranges.Ranges.{Ranges}
use Rattle.py_process.specs.Ranges.{AreRanges, BssIs, IsBss, bss_range, executable_of, moved_by}

-- no section may be the bss
pub record HasNoBss (bytes : List ℕ) : Type 0 where
  pub held : HasSections bytes
  pub none : BssIs bytes (sections_of bytes) None

-- there is a bss, and no executable load segment
pub record HasNoExecutable (bytes : List ℕ) : Type 0 where
  pub held : HasSections bytes
  pub bss : Section
  pub is_bss : IsBss bytes (sections_of bytes) bss
  pub none : executable_of bytes ≡ None

-- there are both, and the bss ends past the last address
pub record HasBadBss (bytes : List ℕ) (addr : ℕ) : Type 0 where
  pub held : HasSections bytes
  pub bss : Section
  pub is_bss : IsBss bytes (sections_of bytes) bss
  pub segment : Segment
  pub is_segment : executable_of bytes ≡ Some segment
  pub past : bss_range bss (moved_by addr segment) ≡ None

-- why there are no ranges; out of memory may always be answered
abbrev pub RefusesRanges : List ℕ → ℕ → BinaryError → Type 0
RefusesRanges bytes addr NotElf64 = ⊥
RefusesRanges bytes addr BadHeader = ¬ HasSections bytes
RefusesRanges bytes addr NoBss = HasNoBss bytes
RefusesRanges bytes addr NoExecutable = HasNoExecutable bytes
RefusesRanges bytes addr BadBss = HasBadBss bytes addr
RefusesRanges bytes addr OutOfMemory = ⊤

-- there are ranges
abbrev pub HasRanges : List ℕ → ℕ → Type 0
HasRanges bytes addr = (ranges : Ranges) × AreRanges bytes addr ranges

-- both lists of symbols can be read
pub record HasBoth (bytes : List ℕ) : Type 0 where
  pub plain : HasSymbols bytes Plain
  pub dynamic : HasSymbols bytes Dynamic

-- headers that can't be read: of segments, else of sections; else, where all others pass, symbols
abbrev pub HasBadHeader : List ℕ → ℕ → Type 0
HasBadHeader bytes addr =
    (IsElf64 bytes × ¬ HasSegments bytes)
    ⊎ ((IsAccepted bytes × ¬ HasSections bytes) ⊎ (IsAccepted bytes × HasRanges bytes addr × ¬ HasBoth bytes))

-- why an image that is mapped at an address says nothing; out of memory may always be answered
abbrev pub RefusesImage : List ℕ → ℕ → BinaryError → Type 0
RefusesImage bytes addr NotElf64 = ¬ IsElf64 bytes
RefusesImage bytes addr BadHeader = HasBadHeader bytes addr
RefusesImage bytes addr NoBss = IsAccepted bytes × HasNoBss bytes
RefusesImage bytes addr NoExecutable = IsAccepted bytes × HasNoExecutable bytes
RefusesImage bytes addr BadBss = IsAccepted bytes × HasBadBss bytes addr
RefusesImage bytes addr OutOfMemory = ⊤
