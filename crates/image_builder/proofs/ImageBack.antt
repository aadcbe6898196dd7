-- The image of a program reads back: its segments, its sections and its symbols.
use Rattle.std.proofs.Common.{subst, ◌≡◌, ℕ, ◌+◌, ◌-◌, ◌*◌, ◌/◌, ◌<◌, ◌≤◌, ◌^◌, Bool, true, false, cond, leb, eqb, List}
use Rattle.std.proofs.Common.{[], ◌∷◌, ◌++◌, length, map, take, drop, refl, sym, ap, ap₂, ◌∙◌, arith, inl, inr}
use Rattle.std.proofs.lemmas.Bool.{le-leb}
use Rattle.std.specs.Prelude.{MatchOption, ⊤, ◌||◌, Some, None, slice_get, All, codes, option_and_then, find}
use Rattle.std.specs.List.{AllByRecursion, range_with_len}
use Rattle.std.proofs.lemmas.List.Elements.{All-cons, All-nil}
use Rattle.elf64_core.specs.Fields.{u64_in, u32_in, u16_in, u8_in}
use Rattle.elf64_core.specs.Header.{FitsFile, IsAccepted, IsInside, segments_of}
use Rattle.elf64_core.specs.Nul.{string_at, until_nul}
use Rattle.elf64_core.specs.Sections.{HasSections, contents_of, names_section, range_at, section_at, section_count}
use Rattle.elf64_core.specs.Sections.{section_entry_size, section_in, section_name_of, section_table, sections_from}
use Rattle.elf64_core.specs.Sections.{sections_of, string_in, strings_of}
use Rattle.elf64_core.specs.Symbols.{SymbolEntry, entries_or_none, first_section, entries_in, section_entries}
use Rattle.elf64_core.specs.Symbols.{symbol_entry_in, symbols_of}
use Rattle.elf64_core.specs.declared.header.Machine.{Machine}
use Rattle.elf64_core.specs.declared.section.Section.{Section}
use Rattle.elf64_core.specs.declared.segment.Segment.{Segment}
use Rattle.elf64_core.specs.declared.symbol.SymbolKind.TheVariants.{Plain, Dynamic}
use Rattle.py_process.specs.Ranges.{AreRanges, executable_of, is_bss_name, is_executable, is_runtime, is_section_named}
use Rattle.py_process.specs.Ranges.{may_be_bss, runtime_range, runtime_section}
use Rattle.py_process.specs.Binary.{HasInfo, SaysFacts}
use Rattle.py_process.specs.Refusals.{HasBoth}
use Rattle.py_process.specs.SymbolMap.{address_of}
use Rattle.object_builder.specs.Objects.{bytes_of}
use Rattle.object_builder.specs.Objects.Value.{U32}
use Rattle.object_builder.specs.Placing.{Stands}
use Rattle.object_builder.proofs.Placing.{stands_left, stands_right}
use Rattle.image_builder.specs.CoreFiles.{segment_headers}
use Rattle.image_builder.specs.ElfRecords.{file_fields, section_fields, symbol_fields}
use Rattle.image_builder.specs.ImageFacts.{image_entries, image_facts, object_symbol}
use Rattle.image_builder.specs.ImageFiles.{bss_section, image_file, image_head, image_segments, image_strings}
use Rattle.image_builder.specs.ImageFiles.{image_symbols, no_section, section_header, section_headers, strings_section}
use Rattle.image_builder.specs.ImageFiles.{symbols_section}
use Rattle.image_builder.specs.Records.{filled, record_of}
use Rattle.image_builder.proofs.Appending.{length-filled}
use Rattle.image_builder.proofs.Lengths.{length-header, length-image, length-section, length-sections, length-segments}
use Rattle.image_builder.proofs.Lengths.{length-strings, length-symbol, length-symbols}
use Rattle.image_builder.proofs.Reading.{file_stands, filled_stands, part_file, u16_field, u32_field, u64_field}
use Rattle.image_builder.proofs.Reading.{u8_field}
use Rattle.image_builder.proofs.SegmentsBack.{FitsHeader, file_accepted, file_segments, names_at, sections_at_back}
use Rattle.image_builder.proofs.SegmentsBack.{sections_counted, sections_sized}

module _ (machine : Machine) (number : ℕ) where
  abbrev pub image : List ℕ
  image = image_file machine number

  abbrev page : List ℕ
  page = filled 0x1000 (image_head machine)

  abbrev last : List ℕ
  last = filled 0x1000 (bytes_of (U32 number))

  abbrev head : List ℕ
  head = record_of (file_fields 2 machine 2 0xb0 4 3)

  image_length : length image ≡ 0x2000
  image_length = length-image machine number

  -- ---- what stands in the file

  whole : Stands (slice_get image) 0 (page ++ last)
  unfolding image_file
  whole = file_stands image (omega (arith, image_length))

  first_page : Stands (slice_get image) 0 (head ++ (segment_headers image_segments
      ++ (section_headers ++ (image_symbols ++ image_strings))))
  unfolding image_head
  first_page = filled_stands 0x1000 (image_head machine) (stands_left page last whole)

  head_stands : Stands (slice_get image) 0 head
  head_stands = stands_left head (segment_headers image_segments
      ++ (section_headers ++ (image_symbols ++ image_strings))) first_page

  after_head : Stands (slice_get image) 64 (segment_headers image_segments
      ++ (section_headers ++ (image_symbols ++ image_strings)))
  after_head = rw (length-header 2 machine 2 0xb0 4 3) at (stands_right head (segment_headers image_segments
      ++ (section_headers ++ (image_symbols ++ image_strings))) first_page)

  headers_stand : Stands (slice_get image) 64 (segment_headers image_segments)
  headers_stand = stands_left (segment_headers image_segments) (section_headers
      ++ (image_symbols ++ image_strings)) after_head

  after_headers : Stands (slice_get image) 0xb0 (section_headers ++ (image_symbols ++ image_strings))
  after_headers = rw (length-segments image_segments) at (stands_right (segment_headers image_segments) (section_headers
      ++ (image_symbols ++ image_strings)) after_head)

  sections_stand : Stands (slice_get image) 0xb0 section_headers
  sections_stand = stands_left section_headers (image_symbols ++ image_strings) after_headers

  after_sections : Stands (slice_get image) 0x1b0 (image_symbols ++ image_strings)
  after_sections = rw length-sections at (stands_right section_headers (image_symbols ++ image_strings) after_headers)

  symbols_stand : Stands (slice_get image) 0x1b0 image_symbols
  symbols_stand = stands_left image_symbols image_strings after_sections

  strings_stand : Stands (slice_get image) 0x228 image_strings
  strings_stand = rw length-symbols at (stands_right image_symbols image_strings after_sections)

  -- ---- segments

  all_fit : AllByRecursion FitsHeader image_segments
  all_fit = (
    record {
      kind = omega arith;
      flags = omega arith;
      offset = omega arith;
      addr = omega arith;
      file_size = omega arith;
      mem_size = omega arith;
    },
    (
      record {
        kind = omega arith;
        flags = omega arith;
        offset = omega arith;
        addr = omega arith;
        file_size =
            omega arith;
        mem_size = omega arith;
      },
      tt,
    ),
  )

  pub image_segments_are : segments_of image ≡ image_segments
  image_segments_are = file_segments image 2 machine 0xb0 4 3 image_segments (omega arith) (omega arith) (omega arith)
      (omega arith) head_stands headers_stand all_fit

  abbrev code_segment : Segment
  code_segment = record { kind = 1; flags = 5; offset = 0; addr = 0x40_0000; file_size = 0x2000; mem_size = 0x2000 }

  abbrev words_segment : Segment
  words_segment = record { kind = 1; flags = 6; offset = 0x2000; addr = 0x50_0000; file_size = 0; mem_size = 0x2_0000 }

  each_fits : All (FitsFile image) image_segments
  each_fits =
      All-cons (FitsFile image) code_segment (words_segment
      ∷ []) (record {
        loaded = λ e. inr (omega (arith, image_length));
        noted =
            λ e. inr (omega (arith, image_length));
        mapped = λ e. omega arith;
      })
      (All-cons (FitsFile image) words_segment [] (record {
        loaded = λ e. inl refl;
        noted = λ e. inl refl;
        mapped =
            λ e. omega arith;
      }) (All-nil (FitsFile image)))

  pub image_accepted : IsAccepted image
  image_accepted = file_accepted image 2 machine 0xb0 4 3 image_segments (omega arith) (omega arith) (omega arith)
      (omega arith) head_stands headers_stand all_fit each_fits

  -- ---- sections

  section_back : (at flags info align entry_size : ℕ) (s : Section) → s.name < 2 ^ 32 → s.kind < 2 ^ 32
      → s.addr < 2 ^ 64 → s.offset < 2 ^ 64 → s.size < 2 ^ 64 → s.link < 2 ^ 32
      → Stands (slice_get image) at (section_header s flags info align entry_size) → section_in image at ≡ s
  unfolding section_in
  section_back at flags info align entry_size s a b c d e f st =
      let vs = section_fields s flags info align entry_size in
      let here : at ≡ at + 0 = omega arith in
      let name_is : u32_in image at ≡ s.name = ap (u32_in image) here ∙ u32_field image at vs st 0 s.name refl a in
      let kind_is : u32_in image (at + 4) ≡ s.kind = u32_field image at vs st 1 s.kind refl b in
      let addr_is : u64_in image (at + 16) ≡ s.addr = u64_field image at vs st 3 s.addr refl c in
      let offset_is : u64_in image (at + 24) ≡ s.offset = u64_field image at vs st 4 s.offset refl d in
      let size_is : u64_in image (at + 32) ≡ s.size = u64_field image at vs st 5 s.size refl e in
      let link_is : u32_in image (at + 40) ≡ s.link = u32_field image at vs st 6 s.link refl f in
      λ i. record {
        name = name_is i;
        kind = kind_is i;
        addr = addr_is i;
        offset = offset_is i;
        size = size_is i;
        link =
            link_is i;
      }

  sections_at : section_table image ≡ 0xb0
  sections_at = sections_at_back image 2 machine 0xb0 4 3 image_segments (omega arith) (omega arith) (omega arith)
      (omega arith) head_stands headers_stand all_fit

  counted : section_count image ≡ 4
  counted = sections_counted image 2 machine 0xb0 4 3 image_segments (omega arith) (omega arith) (omega arith)
      (omega arith) head_stands headers_stand all_fit

  sized : section_entry_size image ≡ 64
  sized = sections_sized image 2 machine 0xb0 4 3 image_segments (omega arith) (omega arith) (omega arith)
      (omega arith) head_stands headers_stand all_fit

  named : names_section image ≡ 3
  named = names_at image 2 machine 0xb0 4 3 image_segments (omega arith) (omega arith) (omega arith)
      (omega arith) head_stands headers_stand all_fit

  pub image_has_sections : HasSections image
  image_has_sections = record { sized = inr sized; inside = inr (omega (arith, sections_at, counted, image_length)) }

  abbrev four_sections : List Section
  four_sections = no_section ∷ bss_section ∷ symbols_section ∷ strings_section ∷ []

  pub image_sections_are : sections_of image ≡ four_sections
  unfolding sections_from section_headers
  image_sections_are =
      let a = section_header no_section 0 0 0 0 in let b = section_header bss_section 3 0 1 0 in
      let c = section_header symbols_section 0 1 8 24 in let d = section_header strings_section 0 0 1 0 in
      let s1 : Stands (slice_get image) 0xf0 (b ++ (c ++ d)) =
      rw (length-section no_section 0 0 0 0) at (stands_right a (b ++ (c ++ d)) sections_stand) in
      let s2 : Stands (slice_get image) 0x130 (c ++ d) = rw (length-section bss_section 3 0 1 0) at
      (stands_right b (c ++ d) s1) in
      let s3 : Stands (slice_get image) 0x170 d = rw (length-section symbols_section 0 1 8 24) at
      (stands_right c d s2) in
      ap₂ (sections_from image) sections_at counted
      ∙ four
      (section_back 0xb0 0 0 0 0 no_section (omega arith) (omega arith) (omega arith) (omega arith) (omega arith)
      (omega arith) (stands_left a (b ++ (c ++ d)) sections_stand))
      (section_back 0xf0 3 0 1 0 bss_section (omega arith) (omega arith) (omega arith) (omega arith) (omega arith)
      (omega arith) (stands_left b (c ++ d) s1))
      (section_back 0x130 0 1 8 24 symbols_section (omega arith) (omega arith) (omega arith) (omega arith) (omega arith)
      (omega arith) (stands_left c d s2))
      (section_back 0x170 0 0 1 0 strings_section (omega arith) (omega arith) (omega arith) (omega arith) (omega arith)
      (omega arith) s3)
    where
      four : {a b c d e f g h : Section} → a ≡ e → b ≡ f → c ≡ g → d ≡ h
          → ◌≡◌ {A = List Section} (a ∷ b ∷ c ∷ d ∷ []) (e ∷ f ∷ g ∷ h ∷ [])
      four p q r s = λ i. p i ∷ q i ∷ r i ∷ s i ∷ []

  -- ---- strings

  range_back : (at n : ℕ) (bytes : List ℕ) → length bytes ≡ n → at + n ≤ 0x2000 → Stands (slice_get image) at bytes
      → range_at image at n ≡ Some bytes
  unfolding range_at
  range_back at n bytes len fits s =
      let inside : leb (at + n) (length image) ≡ true = le-leb (at + n) (length image) (omega (arith, image_length)) in
      let back : at + n - at ≡ n = omega arith in
      ap (λ t. cond (eqb n 0 || t) (Some (take (at + n - at) (drop at image))) None) inside
      ∙ ap (λ t. cond t (Some (take (at + n - at) (drop at image))) None) (or_true (eqb n 0))
      ∙ ap (λ k. Some (take k (drop at image))) (back ∙ sym len) ∙ ap Some (part_file image at bytes s)
    where
      or_true : (t : Bool) → (t || true) ≡ true
      or_true true = refl
      or_true false = refl

  pub image_strings_are : strings_of image 3 ≡ Some image_strings
  unfolding strings_of section_at
  image_strings_are = ap (λ ss. option_and_then (contents_of image) (slice_get ss 3)) image_sections_are
      ∙ range_back 0x228 79 image_strings length-strings (omega arith) strings_stand

  pub bss_name : section_name_of image bss_section ≡ Some (codes ".bss")
  unfolding string_at until_nul image_strings
  bss_name = ap (λ n. string_in (strings_of image n) 1) named ∙ ap (λ s. string_in s 1) image_strings_are

  -- ---- symbols

  entry_back : (at name value size : ℕ) (text : List ℕ) → name < 2 ^ 32 → value < 2 ^ 64 → size < 2 ^ 64
      → string_in (Some image_strings) name ≡ Some text
      → Stands (slice_get image_symbols) at (record_of (symbol_fields name value size))
      → symbol_entry_in (Some image_strings) image_symbols at ≡ object_symbol text value size
  unfolding symbol_entry_in
  entry_back at name value size text a b c is_named s =
      let vs = symbol_fields name value size in
      let here : at ≡ at + 0 = omega arith in
      let name_is : u32_in image_symbols at ≡ name = ap (u32_in image_symbols) here
      ∙ u32_field image_symbols at vs s 0 name refl a in
      let info_is : u8_in image_symbols (at + 4) ≡ 17 = u8_field image_symbols at vs s 1 17 refl in
      let section_is : u16_in image_symbols (at + 6) ≡ 1 = u16_field image_symbols at vs s 3 1 refl (omega arith) in
      let value_is : u64_in image_symbols (at + 8) ≡ value = u64_field image_symbols at vs s 4 value refl b in
      let size_is : u64_in image_symbols (at + 16) ≡ size = u64_field image_symbols at vs s 5 size refl c in
      λ i. record {
        name = (ap (string_in (Some image_strings)) name_is ∙ is_named) i;
        info = info_is i;
        section =
            section_is i;
        value = value_is i;
        size = size_is i;
      }

  abbrev none_entry : SymbolEntry
  none_entry = record { name = Some []; info = 0; section = 0; value = 0; size = 0 }

  none_back : symbol_entry_in (Some image_strings) image_symbols 0 ≡ none_entry
  unfolding symbol_entry_in image_symbols filled record_of bytes_of u64_in u32_in u16_in u8_in string_at until_nul
      image_strings
  none_back = refl

  abbrev four_symbols : List ℕ
  four_symbols = record_of (symbol_fields 22 0x40_1000 4) ++ (record_of (symbol_fields 33 0x50_0000 8)
      ++ (record_of (symbol_fields 44 0x51_0008 8) ++ record_of (symbol_fields 67 0x51_0010 8)))

  after_none : Stands (slice_get image_symbols) 24 four_symbols
  unfolding image_symbols
  after_none = rw (length-filled 24 [] (omega arith)) at (stands_right (filled 24 []) four_symbols
      (file_stands image_symbols (omega (arith, length-symbols))))

  entries_back : entries_in (Some image_strings) image_symbols ≡ image_entries
  unfolding string_at until_nul image_strings
  entries_back =
      let none = filled 24 [] in
      let a = record_of (symbol_fields 22 0x40_1000 4) in let b = record_of (symbol_fields 33 0x50_0000 8) in
      let c = record_of (symbol_fields 44 0x51_0008 8) in let d = record_of (symbol_fields 67 0x51_0010 8) in
      let s1 : Stands (slice_get image_symbols) 24 (a ++ (b ++ (c ++ d))) = after_none in
      let s2 : Stands (slice_get image_symbols) 48 (b ++ (c ++ d)) =
      rw (length-symbol 22 0x40_1000 4) at (stands_right a (b ++ (c ++ d)) s1) in
      let s3 : Stands (slice_get image_symbols) 72 (c ++ d) =
      rw (length-symbol 33 0x50_0000 8) at (stands_right b (c ++ d) s2) in
      let s4 : Stands (slice_get image_symbols) 96 d = rw (length-symbol 44 0x51_0008 8) at (stands_right c d s3) in
      ap (λ n. map (λ k. symbol_entry_in (Some image_strings) image_symbols (24 * k)) (range_with_len 0 (n / 24)))
      length-symbols
      ∙ five none_back
      (entry_back 24 22 0x40_1000 4 (codes "Py_Version") (omega arith) (omega arith) (omega arith) refl
      (stands_left a (b ++ (c ++ d)) s1))
      (entry_back 48 33 0x50_0000 8 (codes "_PyRuntime") (omega arith) (omega arith) (omega arith) refl
      (stands_left b (c ++ d) s2))
      (entry_back 72 44 0x51_0008 8 (codes "_PyThreadState_Current") (omega arith) (omega arith) (omega arith) refl
      (stands_left c d s3))
      (entry_back 96 67 0x51_0010 8 (codes "interp_head") (omega arith) (omega arith) (omega arith) refl s4)
    where
      five : {a b c d e f g h i j : SymbolEntry} → a ≡ f → b ≡ g → c ≡ h → d ≡ i → e ≡ j
          → ◌≡◌ {A = List SymbolEntry} (a ∷ b ∷ c ∷ d ∷ e ∷ []) (f ∷ g ∷ h ∷ i ∷ j ∷ [])
      five p q r s t = λ i. p i ∷ q i ∷ r i ∷ s i ∷ t i ∷ []

  pub plain_symbols : symbols_of image Plain ≡ image_entries
  unfolding symbols_of
  plain_symbols =
      ap (λ ss. section_entries image (first_section Plain ss)) image_sections_are
      ∙ ap₂ entries_or_none image_strings_are (range_back 0x1b0 120 image_symbols length-symbols
      (omega arith) symbols_stand)
      ∙ entries_back

  pub dynamic_symbols : symbols_of image Dynamic ≡ []
  unfolding symbols_of
  dynamic_symbols = ap (λ ss. section_entries image (first_section Dynamic ss)) image_sections_are

  -- ---- what it says of the process that mapped it

  executable_is : executable_of image ≡ Some code_segment
  executable_is = ap (find is_executable) image_segments_are

  no_runtime : runtime_section image ≡ None
  unfolding string_at until_nul image_strings
  no_runtime =
      ap (find (is_runtime image)) image_sections_are
      ∙ ap (λ strings. find (λ (section : Section). is_section_named (codes ".PyRuntime")
      (string_in strings section.name)) four_sections)
      (ap (strings_of image) named ∙ image_strings_are)

  pub image_ranges : AreRanges image 0x40_0000 (record {
    offset = 0;
    bss =
        record { addr = 0x50_0000; size = 0x2_0000; end = 0x52_0000 };
    runtime_addr = 0;
    runtime_size = 0;
  })
  image_ranges = record {
    held = image_has_sections;
    bss = bss_section;
    is_bss = record {
      before = no_section ∷ [];
      after = symbols_section ∷ strings_section ∷ [];
      parts = image_sections_are;
      may_be = ap is_bss_name bss_name;
      none_greater = All-cons Smaller no_section [] (λ e. absurd (false_true e)) (All-nil Smaller);
      smaller = All-cons Below symbols_section (strings_section
          ∷ []) (λ e. absurd (false_true e)) (All-cons Below strings_section [] (λ e. absurd (false_true e))
          (All-nil Below));
    };
    segment = code_segment;
    is_segment = executable_is;
    offset = refl;
    bss_is = refl;
    runtime_is = ap (λ s. runtime_range s 0) (sym no_runtime);
  }
    where
      Smaller : Section → Type 0
      Smaller section = may_be_bss image section ≡ true → section.size ≤ bss_section.size

      Below : Section → Type 0
      Below section = may_be_bss image section ≡ true → section.size < bss_section.size

      false_true : false ≡ true → ⊥
      false_true e = cc

  image_both : HasBoth image
  image_both = record {
    plain = record {
      sections = image_has_sections;
      inside =
          subst (λ ss. MatchOption (first_section Plain ss) ⊤ (λ section. IsInside image section.offset section.size))
          (sym image_sections_are) (inr (omega (arith, image_length)));
    };
    dynamic = record {
      sections = image_has_sections;
      inside =
          subst (λ ss. MatchOption (first_section Dynamic ss) ⊤ (λ section. IsInside image section.offset section.size))
          (sym image_sections_are) tt;
    };
  }

  -- the image says these facts
  pub image_says : SaysFacts image 0x40_0000 0x2000 image_facts
  image_says = record {
    accepted = image_accepted;
    both = image_both;
    ranges = (record {
      offset = 0;
      bss = record { addr = 0x50_0000; size = 0x2_0000; end = 0x52_0000 };
      runtime_addr =
          0;
      runtime_size = 0;
    });
    are_ranges = image_ranges;
    bss_addr = refl;
    bss_size = refl;
    pyruntime_addr = refl;
    pyruntime_size = refl;
    addr_is = refl;
    size_is = refl;
    symbols = λ name. ap₂ (λ plain dynamic. address_of (record {
      addr = 0x40_0000;
      size = 0x2000;
      offset = 0;
      bss_end =
          0x52_0000;
    }) name (plain ++ dynamic)) (sym plain_symbols) (sym dynamic_symbols);
  }

  pub image_info : HasInfo image 0x40_0000
  image_info = record {
    accepted = image_accepted;
    ranges = (
      (record {
        offset = 0;
        bss = record { addr = 0x50_0000; size = 0x2_0000; end = 0x52_0000 };
        runtime_addr = 0;
        runtime_size = 0;
      }),
      image_ranges,
    );
    both = image_both;
  }
