-- The sections of the images of a process that a search reads whole, however long they are.
use Rattle.std.specs.Prelude.{◌⊎◌, Option, Some, None}
use Rattle.process_memory.specs.Memory.{Memory}
use Rattle.process_memory.specs.Seen.{IsRange, IsShortOr}
use Rattle.process_memory.specs.declared.memory.Span.{Span}
use Rattle.py_process.specs.Facts.{Facts, Known}

-- exactly a section of an image: its runtime section or its bss, as its facts say where they are
abbrev pub IsSectionOf : Facts → Memory → Span → Type 0
IsSectionOf facts m s =
    IsRange facts.pyruntime_addr facts.pyruntime_size m s ⊎ IsRange facts.bss_addr facts.bss_size m s

-- of an image that may be missing
abbrev pub IsSectionIn : Option Facts → Memory → Span → Type 0
IsSectionIn None m s = ⊥
IsSectionIn (Some facts) m s = IsSectionOf facts m s

-- exactly one of four sections: those of the program, and those of Python's library
abbrev pub IsSection : Known → Memory → Span → Type 0
IsSection k m s = IsSectionIn k.program m s ⊎ IsSectionIn k.library m s

-- what a search may read: a range shorter than 65536 bytes, or exactly one of those sections
abbrev pub IsSearched : Known → Memory → Span → Type 0
IsSearched k m s = IsShortOr (IsSection k) m s
