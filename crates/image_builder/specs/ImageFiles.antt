-- The image of a program: an ELF file (System V gABI) of 0x2000 bytes with two segments, a bss and four symbols. Their
-- names are those that CPython has; which addresses they have is this project's own.
use Rattle.std.specs.Prelude.{ℕ, List, [], ◌∷◌, ◌++◌, codes}
use Rattle.std.specs.List.{flat_map}
use Rattle.elf64_core.specs.declared.header.Machine.{Machine}
use Rattle.elf64_core.specs.declared.section.Section.{Section}
use Rattle.elf64_core.specs.declared.segment.Segment.{Segment}
use Rattle.object_builder.specs.Objects.{bytes_of}
use Rattle.object_builder.specs.Objects.Value.{U32}
use Rattle.image_builder.specs.CoreFiles.{segment_headers}
use Rattle.image_builder.specs.ElfRecords.{file_fields, section_fields, symbol_fields}
use Rattle.image_builder.specs.Records.{filled, record_of}

-- the file's bytes, which can be read and executed; and the bss, which the file has none of and can be written
abbrev pub image_segments : List Segment
image_segments =
    record { kind = 1; flags = 5; offset = 0; addr = 0x40_0000; file_size = 0x2000; mem_size = 0x2000 }
    ∷ record { kind = 1; flags = 6; offset = 0x2000; addr = 0x50_0000; file_size = 0; mem_size = 0x2_0000 } ∷ []

-- ---- sections

-- none; the bss, that is allocated and can be written; the symbols, of which the first is local; and the strings
abbrev pub bss_section : Section
bss_section = record { name = 1; kind = 8; addr = 0x50_0000; offset = 0x2000; size = 0x2_0000; link = 0 }

-- the section `.symtab`: five entries of 24 bytes, whose names are in section 3
abbrev pub symbols_section : Section
symbols_section = record { name = 6; kind = 2; addr = 0; offset = 0x1b0; size = 120; link = 3 }

-- the section `.strtab`: the names of sections and symbols
abbrev pub strings_section : Section
strings_section = record { name = 14; kind = 3; addr = 0; offset = 0x228; size = 79; link = 0 }

-- the section of number 0, all zeros, with which the section headers begin (gABI, `SHN_UNDEF`)
abbrev pub no_section : Section
no_section = record { name = 0; kind = 0; addr = 0; offset = 0; size = 0; link = 0 }

-- a section header of 64 bytes, by its section and the other fields
abbrev pub section_header : Section → (flags info align entry_size : ℕ) → List ℕ
section_header s flags info align entry_size = record_of (section_fields s flags info align entry_size)

-- the four section headers
unfoldable pub section_headers : List ℕ
section_headers = section_header no_section 0 0 0 0 ++ (section_header bss_section 3 0 1 0
    ++ (section_header symbols_section 0 1 8 24 ++ section_header strings_section 0 0 1 0))

-- ---- symbols

-- names of sections and symbols, each ended by a nul, behind one that is empty
abbrev pub image_names : List (List ℕ)
image_names = [] ∷ codes ".bss" ∷ codes ".symtab" ∷ codes ".strtab" ∷ codes "Py_Version" ∷ codes "_PyRuntime"
    ∷ codes "_PyThreadState_Current" ∷ codes "interp_head" ∷ []

-- the string table: those names one behind the other
unfoldable pub image_strings : List ℕ
image_strings = flat_map (λ name. name ++ 0 ∷ []) image_names

-- the entry that each symbol table begins with, of zeros; and the version's number, the runtime record, the current
-- thread and the newest interpreter
unfoldable pub image_symbols : List ℕ
image_symbols = filled 24 [] ++ (record_of (symbol_fields 22 0x40_1000 4) ++ (record_of (symbol_fields 33 0x50_0000 8)
    ++ (record_of (symbol_fields 44 0x51_0008 8) ++ record_of (symbol_fields 67 0x51_0010 8))))

-- ---- the file

-- the first page: the headers, the symbols and the strings
unfoldable pub image_head : Machine → List ℕ
image_head machine = record_of (file_fields 2 machine 2 0xb0 4 3)
    ++ (segment_headers image_segments ++ (section_headers ++ (image_symbols ++ image_strings)))

-- behind it the version's number
unfoldable pub image_file : Machine → (number : ℕ) → List ℕ
image_file machine number = filled 0x1000 (image_head machine) ++ filled 0x1000 (bytes_of (U32 number))
