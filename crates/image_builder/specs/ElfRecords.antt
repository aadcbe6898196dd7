-- The records of an ELF64 file, as the System V gABI has them, for 64-bit little-endian files: the file's header
-- (Elf64_Ehdr), a program header (Elf64_Phdr), a section header (Elf64_Shdr), an entry of a symbol table (Elf64_Sym),
-- and a note's header (Elf64_Nhdr). Each has its fields in their order there.
use Rattle.std.specs.Prelude.{ℕ, nat_eq, if◌then◌else◌, List, [], ◌∷◌}
use Rattle.elf64_core.specs.Header.{identity}
use Rattle.elf64_core.specs.declared.header.Machine.{Machine}
use Rattle.elf64_core.specs.declared.header.Machine.TheVariants.{X86_64, Aarch64, Other}
use Rattle.elf64_core.specs.declared.section.Section.{Section}
use Rattle.elf64_core.specs.declared.segment.Segment.{Segment}
use Rattle.object_builder.specs.Objects.{Value}
use Rattle.object_builder.specs.Objects.Value.{U64, U32, U16, U8, Bytes}

-- the number that names a machine: EM_X86_64, EM_AARCH64, and EM_NONE for others
abbrev pub machine_number : Machine → ℕ
machine_number X86_64 = 62
machine_number Aarch64 = 183
machine_number Other = 0

-- the file's header, behind which the program headers stand: e_ident with the version 1, e_type, e_machine, e_version,
-- e_entry, e_phoff, e_shoff, e_flags, e_ehsize, e_phentsize, e_phnum, e_shentsize, e_shnum, e_shstrndx
abbrev pub file_fields : (kind : ℕ) → Machine → (segments sections_at sections names : ℕ) → List Value
file_fields kind machine segments sections_at sections names =
    Bytes identity ∷ U8 1 ∷ U8 0 ∷ U64 0 ∷ U16 kind ∷ U16 (machine_number machine) ∷ U32 1 ∷ U64 0 ∷ U64 64
    ∷ U64 sections_at ∷ U32 0 ∷ U16 64 ∷ U16 56 ∷ U16 segments ∷ U16 64 ∷ U16 sections ∷ U16 names ∷ []

-- notes are aligned to 4 bytes, what is loaded to pages
abbrev pub alignment : (kind : ℕ) → ℕ
alignment kind = if nat_eq kind 4 then 4 else 4096

-- a program header: p_type, p_flags, p_offset, p_vaddr, p_paddr, p_filesz, p_memsz, p_align
abbrev pub segment_fields : Segment → List Value
segment_fields s =
    U32 s.kind ∷ U32 s.flags ∷ U64 s.offset ∷ U64 s.addr ∷ U64 0 ∷ U64 s.file_size ∷ U64 s.mem_size
    ∷ U64 (alignment s.kind) ∷ []

-- a section header: sh_name, sh_type, sh_flags, sh_addr, sh_offset, sh_size, sh_link, sh_info, sh_addralign, sh_entsize
abbrev pub section_fields : Section → (flags info align entry_size : ℕ) → List Value
section_fields s flags info align entry_size =
    U32 s.name ∷ U32 s.kind ∷ U64 flags ∷ U64 s.addr ∷ U64 s.offset ∷ U64 s.size ∷ U32 s.link ∷ U32 info
    ∷ U64 align ∷ U64 entry_size ∷ []

-- a symbol, by where its name begins: st_name, st_info, st_other, st_shndx, st_value, st_size; it is a global object
-- of the first section
abbrev pub symbol_fields : (name value size : ℕ) → List Value
symbol_fields name value size = U32 name ∷ U8 0x11 ∷ U8 0 ∷ U16 1 ∷ U64 value ∷ U64 size ∷ []

-- a note's header: n_namesz, n_descsz, n_type
abbrev pub note_fields : (name_size desc_size kind : ℕ) → List Value
note_fields name_size desc_size kind = U32 name_size ∷ U32 desc_size ∷ U32 kind ∷ []
