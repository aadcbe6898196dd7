-- How long the parts of the files are.
use Rattle.std.proofs.Common.{◌≡◌, ◌+◌, ◌*◌, ℕ, List, [], ◌∷◌, ◌++◌, length, refl, arith, length-append}
use Rattle.elf64_core.specs.Notes.{padded}
use Rattle.elf64_core.specs.declared.header.Machine.{Machine}
use Rattle.elf64_core.specs.declared.section.Section.{Section}
use Rattle.elf64_core.specs.declared.segment.Segment.{Segment}
use Rattle.object_builder.specs.Objects.{bytes_of}
use Rattle.object_builder.specs.Objects.Value.{U32}
use Rattle.object_builder.proofs.Objects.{length-bytes_of}
use Rattle.image_builder.specs.CoreFiles.{core_file, core_head, core_notes, core_segments, laid_note, owner_name}
use Rattle.image_builder.specs.CoreFiles.{owner_padding, process_fields, process_name, process_record, segment_headers}
use Rattle.image_builder.specs.CoreFiles.{status_fields, table_fields}
use Rattle.image_builder.specs.ElfRecords.{file_fields, note_fields, section_fields, segment_fields, symbol_fields}
use Rattle.image_builder.specs.ImageFiles.{bss_section, image_file, image_head, image_segments, image_strings}
use Rattle.image_builder.specs.ImageFiles.{image_symbols, no_section, section_header, section_headers, strings_section}
use Rattle.image_builder.specs.ImageFiles.{symbols_section}
use Rattle.py_fields.specs.Sound.{IsSound}
use Rattle.py_fields.specs.declared.layout.Layout.{Layout}
use Rattle.py_fields.specs.declared.version.Version.{Version}
use Rattle.object_builder.proofs.Objects.{length-inside}
use Rattle.image_builder.specs.Records.{filled, record_of}
use Rattle.image_builder.specs.RuntimeWords.{runtime_words, words_writes}
use Rattle.image_builder.proofs.RuntimeWords.{words_inside}
use Rattle.image_builder.proofs.Appending.{length-filled, length-record}

-- ---- headers

pub length-header : (kind : ℕ) (machine : Machine) (segments sections_at sections names : ℕ)
    → length (record_of (file_fields kind machine segments sections_at sections names)) ≡ 64
length-header kind machine segments sections_at sections names =
    length-record (file_fields kind machine segments sections_at sections names)

pub length-segment : (s : Segment) → length (record_of (segment_fields s)) ≡ 56
length-segment s = length-record (segment_fields s)

pub length-segments : (ss : List Segment) → length (segment_headers ss) ≡ 56 * length ss
length-segments [] = refl
length-segments (s ∷ ss) = omega (
  arith,
  length-append (record_of (segment_fields s)) (segment_headers ss),
  length-segment s,
  length-segments ss,
)

pub length-section : (s : Section) (flags info align entry_size : ℕ)
    → length (section_header s flags info align entry_size) ≡ 64
length-section s flags info align entry_size = length-record (section_fields s flags info align entry_size)

pub length-symbol : (name value size : ℕ) → length (record_of (symbol_fields name value size)) ≡ 24
length-symbol name value size = length-record (symbol_fields name value size)

-- ---- notes

pub length-note : (kind : ℕ) (desc : List ℕ) → length (laid_note kind desc) ≡ 20 + padded (length desc)
unfolding laid_note
length-note kind desc =
    let head = record_of (note_fields 5 (length desc) kind) in
    let owner = owner_name ++ owner_padding in
    let body = filled (padded (length desc)) desc in
    omega (
      arith,
      length-append head (owner ++ body),
      length-append owner body,
      length-record (note_fields 5 (length desc) kind),
      length-filled (padded (length desc)) desc (omega arith),
    )

pub length-status : length (record_of status_fields) ≡ 112
length-status = length-record status_fields

pub length-process : length process_record ≡ 136
unfolding process_record
length-process =
    let head = record_of process_fields in
    let one = filled 16 process_name in
    let two = filled 80 process_name in
    omega (
      arith,
      length-append head (one ++ two),
      length-append one two,
      length-record process_fields,
      length-filled 16 process_name (omega arith),
      length-filled 80 process_name (omega arith),
    )

pub length-table : length (record_of table_fields) ≡ 57
length-table = length-record table_fields

pub length-notes : length core_notes ≡ 368
unfolding core_notes
length-notes =
    let one = laid_note 1 (record_of status_fields) in
    let two = laid_note 3 process_record in
    let three = laid_note 0x46494c45 (record_of table_fields) in
    omega (
      arith,
      length-append one (two ++ three),
      length-append two three,
      length-note 1 (record_of status_fields),
      length-note 3 process_record,
      length-note 0x46494c45 (record_of table_fields),
      length-status,
      length-process,
      length-table,
    )

-- ---- the core's first page

pub length-core_head : (machine : Machine) (objects : ℕ) → length (core_head machine objects) ≡ 656
unfolding core_head
length-core_head machine objects =
    let head = record_of (file_fields 4 machine 4 0 0 0) in
    let headers = segment_headers (core_segments objects) in
    omega (
      arith,
      length-append head (headers ++ core_notes),
      length-append headers core_notes,
      length-header 4 machine 4 0 0 0,
      length-segments (core_segments objects),
      length-notes,
    )

pub length-core : (machine : Machine) (image words objects : List ℕ)
    → length (core_file machine image words objects) ≡ 0x1000 + length image + length words + length objects
unfolding core_file
length-core machine image words objects =
    let head = filled 0x1000 (core_head machine (length objects)) in
    omega (
      arith,
      length-append head (image ++ (words ++ objects)),
      length-append image (words ++ objects),
      length-append words objects,
      length-filled 0x1000 (core_head machine (length objects)) (omega (
        arith,
        length-core_head machine (length objects),
      )),
    )

pub length-words : (l : Layout) (machine : Machine) (v : Version) (holder : ℕ) → IsSound l
    → length (runtime_words l machine v holder) ≡ 0x2_0000
unfolding runtime_words
length-words l machine v holder sound = length-inside 0x2_0000 (words_writes l machine v holder)
    (words_inside l machine v holder sound)

-- ---- the image

pub length-sections : length section_headers ≡ 256
unfolding section_headers
length-sections =
    let a = section_header no_section 0 0 0 0 in let b = section_header bss_section 3 0 1 0 in
    let c = section_header symbols_section 0 1 8 24 in let d = section_header strings_section 0 0 1 0 in
    omega (
      arith,
      length-append a (b ++ (c ++ d)),
      length-append b (c ++ d),
      length-append c d,
      length-section no_section 0 0 0 0,
      length-section bss_section 3 0 1 0,
      length-section symbols_section 0 1 8 24,
      length-section strings_section 0 0 1 0,
    )

pub length-symbols : length image_symbols ≡ 120
unfolding image_symbols
length-symbols =
    let none = filled 24 [] in
    let a = record_of (symbol_fields 22 0x40_1000 4) in let b = record_of (symbol_fields 33 0x50_0000 8) in
    let c = record_of (symbol_fields 44 0x51_0008 8) in let d = record_of (symbol_fields 67 0x51_0010 8) in
    omega (
      arith,
      length-append none (a ++ (b ++ (c ++ d))),
      length-append a (b ++ (c ++ d)),
      length-append b (c ++ d),
      length-append c d,
      length-filled 24 [] (omega arith),
      length-symbol 22 0x40_1000 4,
      length-symbol 33 0x50_0000 8,
      length-symbol 44 0x51_0008 8,
      length-symbol 67 0x51_0010 8,
    )

pub length-strings : length image_strings ≡ 79
unfolding image_strings
length-strings = refl

pub length-image_head : (machine : Machine) → length (image_head machine) ≡ 631
unfolding image_head
length-image_head machine =
    let head = record_of (file_fields 2 machine 2 0xb0 4 3) in
    let headers = segment_headers image_segments in
    let tables = image_symbols ++ image_strings in
    omega (
      arith,
      length-append head (headers ++ (section_headers ++ tables)),
      length-append headers (section_headers ++ tables),
      length-append section_headers tables,
      length-append image_symbols image_strings,
      length-header 2 machine 2 0xb0 4 3,
      length-segments image_segments,
      length-sections,
      length-symbols,
      length-strings,
    )

pub length-image : (machine : Machine) (number : ℕ) → length (image_file machine number) ≡ 0x2000
unfolding image_file
length-image machine number =
    let one = filled 0x1000 (image_head machine) in
    let two = filled 0x1000 (bytes_of (U32 number)) in
    let four : length (bytes_of (U32 number)) ≡ 4 = length-bytes_of (U32 number) in
    omega (
      arith,
      length-append one two,
      length-filled 0x1000 (image_head machine) (omega (
        arith,
        length-image_head machine,
      )),
      length-filled 0x1000 (bytes_of (U32 number)) (omega (arith, four)),
    )
