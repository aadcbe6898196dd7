-- A built core is one, and its memory, maps and records are those that were written.
use Rattle.std.proofs.Common.{◌≡◌, ◌≢◌, ℕ, ◌+◌, ◌-◌, ◌<◌, ◌≤◌, ◌^◌, List, [], ◌∷◌, ◌++◌, length, refl, sym, ap, ◌∙◌}
use Rattle.std.proofs.Common.{arith, take, drop, map, subst}
use Rattle.std.specs.Prelude.{Some, slice_get, min, All, filter}
use Rattle.std.specs.List.{AllByRecursion}
use Rattle.std.proofs.lemmas.List.Elements.{All-cons, All-nil}
use Rattle.elf64_core.specs.Header.{FitsFile, IsAccepted, IsInside, machine_of, segments_of}
use Rattle.elf64_core.specs.Notes.{AreNotes, bytes_of_range}
use Rattle.elf64_core.specs.declared.header.Machine.{Machine}
use Rattle.elf64_core.specs.declared.segment.Segment.{Segment}
use Rattle.image_memory.specs.Cores.{IsCore}
use Rattle.image_memory.specs.Maps.{AreMaps, map_by}
use Rattle.image_memory.specs.Notes.{AreCoreNotes, AreStatuses, IsProcess, NotesOf, is_note}
use Rattle.image_memory.specs.Pieces.{is_load, memory_of, segment_region}
use Rattle.object_builder.specs.Placing.{Stands}
use Rattle.object_builder.proofs.Placing.{stands_left, stands_right}
use Rattle.image_builder.specs.CoreFacts.{built_maps, built_memory, built_process, built_status}
use Rattle.image_builder.specs.CoreFiles.{core_file, core_head, core_notes, core_segments, segment_headers}
use Rattle.image_builder.specs.ElfRecords.{file_fields}
use Rattle.image_builder.specs.Records.{filled, record_of}
use Rattle.image_builder.proofs.Appending.{length-filled}
use Rattle.image_builder.proofs.Lengths.{length-core, length-core_head, length-header, length-notes, length-segments}
use Rattle.image_builder.proofs.NotesBack.{core_entry, notes_back, notes_whole, process_says, statuses_say, tables_say}
use Rattle.image_builder.proofs.NotesBack.{three_notes}
use Rattle.image_builder.proofs.Reading.{file_stands, filled_stands, inside_file, part_file}
use Rattle.image_builder.proofs.SegmentsBack.{FitsHeader, file_accepted, file_machine, file_segments}

add_sub : (a n : ℕ) → a + n - a ≡ n
add_sub a n = omega arith

module _ (machine : Machine) (image words objects : List ℕ) (image_len : length image ≡ 0x2000)
    (words_len : length words ≡ 0x2_0000) (whole_short : length (core_file machine image words objects) < 2 ^ 63) where
  abbrev core : List ℕ
  core = core_file machine image words objects

  abbrev ss : List Segment
  ss = core_segments (length objects)

  abbrev page : List ℕ
  page = filled 0x1000 (core_head machine (length objects))

  abbrev head : List ℕ
  head = record_of (file_fields 4 machine 4 0 0 0)

  length-page : length page ≡ 0x1000
  length-page = length-filled 0x1000 (core_head machine (length objects)) (omega (
    arith,
    length-core_head machine (length objects),
  ))

  short : length objects < 2 ^ 63
  short = omega (arith, whole_short, length-core machine image words objects)

  -- ---- what stands in the file

  whole : Stands (slice_get core) 0 (page ++ (image ++ (words ++ objects)))
  unfolding core_file
  whole = file_stands core whole_short

  first_page : Stands (slice_get core) 0 (head ++ (segment_headers ss ++ core_notes))
  unfolding core_head
  first_page = filled_stands 0x1000 (core_head machine (length objects))
      (stands_left page (image ++ (words ++ objects)) whole)

  head_stands : Stands (slice_get core) 0 head
  head_stands = stands_left head (segment_headers ss ++ core_notes) first_page

  tables_stand : Stands (slice_get core) 64 (segment_headers ss ++ core_notes)
  tables_stand = rw (length-header 4 machine 4 0 0 0) at (stands_right head (segment_headers ss
      ++ core_notes) first_page)

  headers_stand : Stands (slice_get core) 64 (segment_headers ss)
  headers_stand = stands_left (segment_headers ss) core_notes tables_stand

  notes_stand : Stands (slice_get core) 0x120 core_notes
  notes_stand = rw (length-segments ss) at (stands_right (segment_headers ss) core_notes tables_stand)

  rest_stands : Stands (slice_get core) 0x1000 (image ++ (words ++ objects))
  rest_stands = rw length-page at (stands_right page (image ++ (words ++ objects)) whole)

  image_stands : Stands (slice_get core) 0x1000 image
  image_stands = stands_left image (words ++ objects) rest_stands

  both_stand : Stands (slice_get core) 0x3000 (words ++ objects)
  both_stand = rw image_len at (stands_right image (words ++ objects) rest_stands)

  words_stand : Stands (slice_get core) 0x3000 words
  words_stand = stands_left words objects both_stand

  objects_stand : Stands (slice_get core) 0x2_3000 objects
  objects_stand = rw words_len at (stands_right words objects both_stand)

  -- ---- the segments

  all_fit : AllByRecursion FitsHeader ss
  all_fit = (
    record {
      kind = omega arith;
      flags = omega arith;
      offset = omega arith;
      addr = omega arith;
      file_size = omega arith;
      mem_size = omega arith;
    },
    (
      record {
        kind = omega arith;
        flags = omega arith;
        offset = omega arith;
        addr = omega arith;
        file_size =
            omega arith;
        mem_size = omega arith;
      },
      (
        record {
          kind = omega arith;
          flags = omega arith;
          offset = omega arith;
          addr = omega arith;
          file_size =
              omega arith;
          mem_size = omega arith;
        },
        (
          record {
            kind = omega arith;
            flags = omega arith;
            offset = omega arith;
            addr = omega arith;
            file_size =
                omega (arith, short);
            mem_size = omega (arith, short);
          },
          tt,
        ),
      ),
    ),
  )

  pub core_segments_are : segments_of core ≡ ss
  core_segments_are = file_segments core 4 machine 0 0 0 ss (omega arith) (omega arith) (omega arith)
      (omega arith) head_stands headers_stand all_fit

  pub core_machine : machine_of core ≡ machine
  core_machine = file_machine core 4 machine 0 0 0 ss (omega arith) (omega arith) (omega arith)
      (omega arith) head_stands headers_stand all_fit

  fits_of : (at n : ℕ) (bs : List ℕ) → length bs ≡ n → Stands (slice_get core) at bs → IsInside core at n
  fits_of at n bs len s = subst (λ k. IsInside core at k) len (inside_file core at bs s)

  fits_file : (s : Segment) → IsInside core s.offset s.file_size → s.addr + s.mem_size ≤ 2 ^ 64 - 1 → FitsFile core s
  fits_file s inside ends = record { loaded = λ e. inside; noted = λ e. inside; mapped = λ e. ends }

  abbrev notes_segment : Segment
  notes_segment = record { kind = 4; flags = 4; offset = 0x120; addr = 0; file_size = 0x170; mem_size = 0 }

  abbrev image_segment : Segment
  image_segment = record {
    kind = 1;
    flags = 5;
    offset = 0x1000;
    addr = 0x40_0000;
    file_size = 0x2000;
    mem_size =
        0x2000;
  }

  abbrev words_segment : Segment
  words_segment = record {
    kind = 1;
    flags = 6;
    offset = 0x3000;
    addr = 0x50_0000;
    file_size = 0x2_0000;
    mem_size =
        0x2_0000;
  }

  abbrev objects_segment : Segment
  objects_segment = record {
    kind = 1;
    flags = 6;
    offset = 0x2_3000;
    addr = 0x60_0000;
    file_size = length objects;
    mem_size = length objects;
  }

  each_fits : All (FitsFile core) ss
  each_fits =
      let Fits = FitsFile core in
      All-cons Fits notes_segment (image_segment ∷ words_segment ∷ objects_segment
      ∷ []) (fits_file notes_segment (fits_of 0x120 0x170 core_notes length-notes notes_stand) (omega arith))
      (All-cons Fits image_segment (words_segment ∷ objects_segment
      ∷ []) (fits_file image_segment (fits_of 0x1000 0x2000 image image_len image_stands) (omega arith))
      (All-cons Fits words_segment (objects_segment ∷ []) (fits_file words_segment
      (fits_of 0x3000 0x2_0000 words words_len words_stand) (omega arith))
      (All-cons Fits objects_segment [] (fits_file objects_segment
      (fits_of 0x2_3000 (length objects) objects refl objects_stand) (omega (arith, short))) (All-nil Fits))))

  pub core_accepted : IsAccepted core
  core_accepted = file_accepted core 4 machine 0 0 0 ss (omega arith) (omega arith) (omega arith)
      (omega arith) head_stands headers_stand all_fit each_fits

  -- ---- memory

  region_is : (flags at addr n : ℕ) (bs : List ℕ) → length bs ≡ n → Stands (slice_get core) at bs
      → segment_region core (record { kind = 1; flags = flags; offset = at; addr = addr; file_size = n; mem_size = n })
      ≡ (addr, bs)
  region_is flags at addr n bs len s =
      let least : min n n ≡ length bs = omega (arith, len) in
      ap (λ k. (addr, take k (drop at core))) least ∙ ap (λ xs. (addr, xs)) (part_file core at bs s)

  pub core_memory_is : memory_of core ≡ built_memory image words objects
  core_memory_is =
      ap (λ s. map (segment_region core) (filter is_load s)) core_segments_are
      ∙ three (region_is 5 0x1000 0x40_0000 0x2000 image image_len image_stands)
      (region_is 6 0x3000 0x50_0000 0x2_0000 words words_len words_stand)
      (region_is 6 0x2_3000 0x60_0000 (length objects) objects refl objects_stand)
    where
      three : {T : Type 0} {a b c d e f : T} → a ≡ d → b ≡ e → c ≡ f
          → ◌≡◌ {A = List T} (a ∷ b ∷ c ∷ []) (d ∷ e ∷ f ∷ [])
      three p q r = λ i. p i ∷ q i ∷ r i ∷ []

  -- ---- notes

  note_bytes_are : bytes_of_range core 0x120 0x170 ≡ core_notes
  note_bytes_are =
      ap (λ n. take n (drop 0x120 core)) (sym length-notes) ∙ part_file core 0x120 core_notes notes_stand

  pub core_notes_are : AreCoreNotes core three_notes (core_entry ∷ [])
  core_notes_are = record {
    together = subst (λ s. NotesOf core (filter is_note s) three_notes) (sym core_segments_are) (
      three_notes,
      [],
      subst (λ bs. AreNotes bs three_notes) (sym note_bytes_are) notes_back,
      refl,
      refl,
    );
    whole = notes_whole;
    tables = tables_say;
  }

  pub core_is : IsCore core
  core_is = record {
    accepted = core_accepted;
    noted = subst (λ s. filter is_note s ≢ []) (sym core_segments_are) (λ e. absurd (cc));
    notes = three_notes;
    entries = core_entry ∷ [];
    found = core_notes_are;
  }

  pub maps_are : AreMaps core (built_maps (length objects))
  maps_are = record {
    notes = three_notes;
    entries = core_entry ∷ [];
    found = core_notes_are;
    says = ap (λ s. map (map_by (core_entry ∷ [])) (filter is_load s)) (sym core_segments_are);
  }

  pub statuses_are : AreStatuses core (built_status ∷ [])
  statuses_are = record {
    notes = three_notes;
    entries = core_entry ∷ [];
    found = core_notes_are;
    says =
        sym statuses_say;
  }

  pub process_is : IsProcess core (Some built_process)
  process_is = record { notes = three_notes; entries = core_entry ∷ []; found = core_notes_are; says = process_says }
