-- Where the fields stand in the records of an ELF64 file, in bytes from a record's start, by the System V gABI. A
-- record's first field stands at its start.
use Rattle.std.specs.Prelude.{ℕ}

-- the file's header, Elf64_Ehdr
abbrev pub e_machine : ℕ
e_machine = 18

-- where the file's header has the program headers' offset (gABI, "ELF Header")
abbrev pub e_phoff : ℕ
e_phoff = 32

-- where it has the section headers' offset
abbrev pub e_shoff : ℕ
e_shoff = 40

-- where it has the length of a program header
abbrev pub e_phentsize : ℕ
e_phentsize = 54

-- where it has the number of program headers
abbrev pub e_phnum : ℕ
e_phnum = 56

-- where it has the length of a section header
abbrev pub e_shentsize : ℕ
e_shentsize = 58

-- where it has the number of section headers
abbrev pub e_shnum : ℕ
e_shnum = 60

-- where it has the number of the section of section names
abbrev pub e_shstrndx : ℕ
e_shstrndx = 62

-- a program header, Elf64_Phdr, which begins with p_type
abbrev pub p_flags : ℕ
p_flags = 4

-- where a program header has the segment's offset in the file (gABI, "Program Header")
abbrev pub p_offset : ℕ
p_offset = 8

-- where it has the segment's address
abbrev pub p_vaddr : ℕ
p_vaddr = 16

-- where it has the segment's length in the file
abbrev pub p_filesz : ℕ
p_filesz = 32

-- where it has the segment's length in memory
abbrev pub p_memsz : ℕ
p_memsz = 40

-- a section header, Elf64_Shdr, which begins with sh_name
abbrev pub sh_type : ℕ
sh_type = 4

-- where a section header has the section's address (gABI, "Section Header")
abbrev pub sh_addr : ℕ
sh_addr = 16

-- where it has the section's offset in the file
abbrev pub sh_offset : ℕ
sh_offset = 24

-- where it has the section's length
abbrev pub sh_size : ℕ
sh_size = 32

-- where it has the number of the section that this one is linked to
abbrev pub sh_link : ℕ
sh_link = 40

-- an entry of a symbol table, Elf64_Sym, which begins with st_name
abbrev pub st_info : ℕ
st_info = 4

-- where a symbol has the number of its section (gABI, "Symbol Table")
abbrev pub st_shndx : ℕ
st_shndx = 6

-- where it has its value, an address
abbrev pub st_value : ℕ
st_value = 8

-- where it has its length
abbrev pub st_size : ℕ
st_size = 16

-- a note's header, Elf64_Nhdr, which begins with n_namesz
abbrev pub n_descsz : ℕ
n_descsz = 4

-- where a note has its type (gABI, "Note Section")
abbrev pub n_type : ℕ
n_type = 8
