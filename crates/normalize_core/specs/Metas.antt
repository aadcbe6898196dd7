-- What an address belongs to, by its kind.
use Rattle.std.specs.Prelude.{Option, Some, None}
use Rattle.normalize_core.specs.declared.meta.Elf.{Elf}
use Rattle.normalize_core.specs.declared.meta.Unknown.{Unknown}
use Rattle.normalize_core.specs.declared.meta.UserMeta.{UserMeta}
use Rattle.normalize_core.specs.declared.meta.UserMeta.TheVariants as meta

-- the file
abbrev pub elf_in : UserMeta → Option Elf
elf_in (meta.Elf elf) = Some elf
elf_in (meta.Unknown unknown) = None

-- why it is no file
abbrev pub unknown_of_meta : UserMeta → Option Unknown
unknown_of_meta (meta.Elf elf) = None
unknown_of_meta (meta.Unknown unknown) = Some unknown
