-- The header of a file and those of its segments are read as they were written.
use Rattle.std.proofs.Common.{◌≡◌, ℕ, ◌+◌, ◌*◌, ◌<◌, ◌≤◌, ◌^◌, List, [], ◌∷◌, length, refl, sym, ap, ◌∙◌, arith, inl}
use Rattle.std.proofs.Common.{inr, subst}
use Rattle.std.specs.Prelude.{◌⊎◌, slice_get, All}
use Rattle.std.specs.List.{AllByRecursion}
use Rattle.elf64_core.specs.Fields.{u64_in, u32_in, u16_in}
use Rattle.elf64_core.specs.Header.{FitsFile, IsAccepted, IsInside, entry_size, identity, machine_named, machine_of}
use Rattle.elf64_core.specs.Header.{program_table, segment_count, segment_in, segments_from, segments_of}
use Rattle.elf64_core.specs.declared.header.Machine.{Machine}
use Rattle.elf64_core.specs.declared.header.Machine.TheVariants.{X86_64, Aarch64, Other}
use Rattle.elf64_core.specs.declared.segment.Segment.{Segment}
use Rattle.object_builder.specs.Objects.{Value, bytes_of}
use Rattle.object_builder.specs.Objects.Value.{Bytes}
use Rattle.object_builder.specs.Placing.{Stands}
use Rattle.object_builder.proofs.Placing.{stands_left, stands_right}
use Rattle.image_builder.specs.CoreFiles.{segment_headers}
use Rattle.image_builder.specs.ElfRecords.{file_fields, machine_number, segment_fields}
use Rattle.image_builder.specs.Records.{record_of}
use Rattle.image_builder.proofs.Lengths.{length-header, length-segment, length-segments}
use Rattle.image_builder.proofs.Reading.{field_stands, inside_file, part_file, u16_field, u32_field, u64_field}

-- each number fits its field
pub record FitsHeader (s : Segment) : Type 0 where
  pub kind : s.kind < 2 ^ 32
  pub flags : s.flags < 2 ^ 32
  pub offset : s.offset < 2 ^ 64
  pub addr : s.addr < 2 ^ 64
  pub file_size : s.file_size < 2 ^ 64
  pub mem_size : s.mem_size < 2 ^ 64

segment_back : (file : List ℕ) (at : ℕ) (s : Segment) → FitsHeader s
    → Stands (slice_get file) at (record_of (segment_fields s)) → segment_in file at ≡ s
unfolding segment_in
segment_back file at s fits st =
    let vs = segment_fields s in
    let here : at ≡ at + 0 = omega arith in
    let kind : u32_in file at ≡ s.kind = ap (u32_in file) here ∙ u32_field file at vs st 0 s.kind refl fits.kind in
    let flags : u32_in file (at + 4) ≡ s.flags = u32_field file at vs st 1 s.flags refl fits.flags in
    let offset : u64_in file (at + 8) ≡ s.offset = u64_field file at vs st 2 s.offset refl fits.offset in
    let addr : u64_in file (at + 16) ≡ s.addr = u64_field file at vs st 3 s.addr refl fits.addr in
    let file_size : u64_in file (at + 32) ≡ s.file_size = u64_field file at vs st 5 s.file_size refl fits.file_size in
    let mem_size : u64_in file (at + 40) ≡ s.mem_size = u64_field file at vs st 6 s.mem_size refl fits.mem_size in
    λ i. record {
      kind = kind i;
      flags = flags i;
      offset = offset i;
      addr = addr i;
      file_size = file_size i;
      mem_size =
          mem_size i;
    }

pub segments_back : (file : List ℕ) (at : ℕ) (ss : List Segment) → AllByRecursion FitsHeader ss
    → Stands (slice_get file) at (segment_headers ss) → segments_from file at (length ss) ≡ ss
unfolding segments_from
segments_back file at [] all st = refl
segments_back file at (s ∷ ss) all st =
    let head = record_of (segment_fields s) in
    let here : Stands (slice_get file) at head = stands_left head (segment_headers ss) st in
    let rest : Stands (slice_get file) (at + 56) (segment_headers ss) =
    rw (length-segment s) at (stands_right head (segment_headers ss) st) in
    rw (segment_back file at s all.0 here, segments_back file (at + 56) ss all.1 rest) refl

pub machine_back : (machine : Machine) → machine_named (machine_number machine) ≡ machine
machine_back X86_64 = refl
machine_back Aarch64 = refl
machine_back Other = refl

machine_fits : (machine : Machine) → machine_number machine < 2 ^ 16
machine_fits X86_64 = omega arith
machine_fits Aarch64 = omega arith
machine_fits Other = omega arith

-- a file that begins with a header and the headers of its segments
module _ (file : List ℕ) (kind : ℕ) (machine : Machine) (sections_at sections names : ℕ) (ss : List Segment)
    (few : length ss < 2 ^ 15)
    (at_fits : sections_at < 2 ^ 64) (sections_fit : sections < 2 ^ 16) (names_fit : names < 2 ^ 16)
    (head : Stands (slice_get file) 0 (record_of (file_fields kind machine (length ss) sections_at sections names)))
    (headers : Stands (slice_get file) 64 (segment_headers ss)) (all : AllByRecursion FitsHeader ss) where
  abbrev vs : List Value
  vs = file_fields kind machine (length ss) sections_at sections names

  pub table_at : program_table file ≡ 64
  table_at = u64_field file 0 vs head 8 64 refl (omega arith)

  pub count_at : segment_count file ≡ length ss
  count_at = u16_field file 0 vs head 13 (length ss) refl (omega arith)

  pub size_at : entry_size file ≡ 56
  size_at = u16_field file 0 vs head 12 56 refl (omega arith)

  pub file_segments : segments_of file ≡ ss
  file_segments = ap (λ a. segments_from file a (segment_count file)) table_at ∙ ap (segments_from file 64) count_at
      ∙ segments_back file 64 ss all headers

  pub file_machine : machine_of file ≡ machine
  file_machine = ap machine_named (u16_field file 0 vs head 5 (machine_number machine) refl (machine_fits machine))
      ∙ machine_back machine

  pub sections_at_back : u64_in file 40 ≡ sections_at
  sections_at_back = u64_field file 0 vs head 9 sections_at refl at_fits

  pub sections_counted : u16_in file 60 ≡ sections
  sections_counted = u16_field file 0 vs head 15 sections refl sections_fit

  pub sections_sized : u16_in file 58 ≡ 64
  sections_sized = u16_field file 0 vs head 14 64 refl (omega arith)

  pub names_at : u16_in file 62 ≡ names
  names_at = u16_field file 0 vs head 16 names refl names_fit

  pub file_accepted : All (FitsFile file) ss → IsAccepted file
  unfolding bytes_of
  file_accepted fits = record {
    header = record {
      whole = whole_of (record_of vs) (length-header kind machine (length ss) sections_at sections names)
          (inside_file file 0 (record_of vs) head);
      begins = part_file file 0 identity (field_stands 0 vs 0 (Bytes identity) refl head);
    };
    readable = record {
      table = record {
        counted = λ e. omega (arith, count_at);
        sized = inr size_at;
        inside = table_inside (inside_file file 64 (segment_headers ss) headers);
      };
      segments = subst (All (FitsFile file)) (sym file_segments) fits;
    };
  }
    where
      whole_of : (o : List ℕ) → length o ≡ 64 → (length o ≡ 0) ⊎ (0 + length o ≤ length file) → 64 ≤ length file
      whole_of o n (inl e) = absurd (omega (arith, n))
      whole_of o n (inr le) = omega (arith, n)

      table_inside : (length (segment_headers ss) ≡ 0) ⊎ (64 + length (segment_headers ss) ≤ length file)
          → IsInside file (program_table file) (56 * segment_count file)
      table_inside (inl e) = inl (omega (arith, count_at, length-segments ss))
      table_inside (inr le) = inr (omega (arith, count_at, table_at, length-segments ss))
