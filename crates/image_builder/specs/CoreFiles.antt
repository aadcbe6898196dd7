-- The core of a program, as Linux writes cores of 64-bit processes: the headers, the notes, and the memory of three
-- segments, each from a page of the file on. Which addresses they have, and what the notes say, is this project's own.
use Rattle.std.specs.Prelude.{ℕ, List, [], ◌∷◌, ◌++◌, length, codes}
use Rattle.std.specs.List.{flat_map}
use Rattle.elf64_core.specs.Notes.{padded}
use Rattle.elf64_core.specs.declared.header.Machine.{Machine}
use Rattle.elf64_core.specs.declared.segment.Segment.{Segment}
use Rattle.object_builder.specs.Objects.{Value}
use Rattle.object_builder.specs.Objects.Value.{U64, U32, U16, U8, Bytes}
use Rattle.image_builder.specs.ElfRecords.{file_fields, note_fields, segment_fields}
use Rattle.image_builder.specs.Records.{filled, record_of}

-- ---- what the notes say

-- the path under which the image is mapped
abbrev pub image_path : List ℕ
image_path = codes "/usr/bin/python3"

-- the name and the arguments of the process
abbrev pub process_name : List ℕ
process_name = codes "python3"

-- elf_prstatus up to the registers: pr_info with the signal, pr_cursig, pr_sigpend, pr_sighold, pr_pid and three more
-- ids, and four times of two numbers: signal 6, process 1
abbrev pub status_fields : List Value
status_fields =
    U32 6 ∷ U32 0 ∷ U32 0 ∷ U16 6 ∷ U16 0 ∷ U64 0 ∷ U64 0 ∷ U32 1 ∷ U32 0 ∷ U32 0 ∷ U32 0
    ∷ U64 0 ∷ U64 0 ∷ U64 0 ∷ U64 0 ∷ U64 0 ∷ U64 0 ∷ U64 0 ∷ U64 0 ∷ []

-- elf_prpsinfo up to the names: four bytes of state, pr_flag, pr_uid, pr_gid, pr_pid and three more ids: process 1
abbrev pub process_fields : List Value
process_fields = U32 0 ∷ U32 0 ∷ U64 0 ∷ U32 0 ∷ U32 0 ∷ U32 1 ∷ U32 0 ∷ U32 0 ∷ U32 0 ∷ []

-- and then pr_fname, of 16 bytes, and pr_psargs, of 80
unfoldable pub process_record : List ℕ
process_record = record_of process_fields ++ (filled 16 process_name ++ filled 80 process_name)

-- NT_FILE: one entry, pages of 4096 bytes; it starts at 0x400000, ends at 0x402000, and begins at page 0; its name
abbrev pub table_fields : List Value
table_fields = U64 1 ∷ U64 4096 ∷ U64 0x40_0000 ∷ U64 0x40_2000 ∷ U64 0 ∷ Bytes image_path ∷ U8 0 ∷ []

-- ---- notes

-- the owner `CORE`, ended by a nul, and its padding
abbrev pub owner_name : List ℕ
owner_name = codes "CORE" ++ 0 ∷ []

-- the three zeros that fill the owner up to a multiple of 4 bytes (gABI, "Note Section")
abbrev pub owner_padding : List ℕ
owner_padding = 0 ∷ 0 ∷ 0 ∷ []

-- a note of Linux' of a type: the header, the owner, and the descriptor, padded
unfoldable pub laid_note : (kind : ℕ) → List ℕ → List ℕ
laid_note kind desc = record_of (note_fields 5 (length desc) kind)
    ++ ((owner_name ++ owner_padding) ++ filled (padded (length desc)) desc)

-- NT_PRSTATUS, NT_PRPSINFO and NT_FILE
unfoldable pub core_notes : List ℕ
core_notes = laid_note 1 (record_of status_fields)
    ++ (laid_note 3 process_record ++ laid_note 0x46494c45 (record_of table_fields))

-- ---- the file

-- the notes, which take 368 bytes behind the headers, and three load segments: the image's first 0x2000 bytes, that
-- can be read and executed, and the words and the objects, that can be read and written
abbrev pub core_segments : (objects : ℕ) → List Segment
core_segments objects =
    record { kind = 4; flags = 4; offset = 0x120; addr = 0; file_size = 0x170; mem_size = 0 }
    ∷ record { kind = 1; flags = 5; offset = 0x1000; addr = 0x40_0000; file_size = 0x2000; mem_size = 0x2000 }
    ∷ record { kind = 1; flags = 6; offset = 0x3000; addr = 0x50_0000; file_size = 0x2_0000; mem_size = 0x2_0000 }
    ∷ record { kind = 1; flags = 6; offset = 0x2_3000; addr = 0x60_0000; file_size = objects; mem_size = objects } ∷ []

-- the program headers of some segments
abbrev pub segment_headers : List Segment → List ℕ
segment_headers segments = flat_map (λ s. record_of (segment_fields s)) segments

-- the first page: the headers and the notes
unfoldable pub core_head : Machine → (objects : ℕ) → List ℕ
core_head machine objects =
    record_of (file_fields 4 machine 4 0 0 0) ++ (segment_headers (core_segments objects) ++ core_notes)

-- the bytes of the core: its first page, and then its three segments
unfoldable pub core_file : Machine → (image words objects : List ℕ) → List ℕ
core_file machine image words objects =
    filled 0x1000 (core_head machine (length objects)) ++ (image ++ (words ++ objects))
