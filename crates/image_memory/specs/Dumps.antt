-- Which refusal of a core is which refusal of its file.
use Rattle.elf64_core.specs.declared.error.ElfError.{ElfError}
use Rattle.elf64_core.specs.declared.error.ElfError.TheVariants as elf
use Rattle.image_memory.specs.declared.dump_error.DumpError.{DumpError}
use Rattle.image_memory.specs.declared.dump_error.DumpError.TheVariants.{NotElf64, BadHeader, BadNote, OutOfMemory}

-- the refusal of a core that an error of its ELF file stands for
abbrev pub dump_refusal_of : ElfError → DumpError
dump_refusal_of elf.NotElf64 = NotElf64
dump_refusal_of elf.BadHeader = BadHeader
dump_refusal_of elf.BadNote = BadNote
dump_refusal_of elf.OutOfMemory = OutOfMemory
