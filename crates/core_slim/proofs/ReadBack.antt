-- The headers of a file of segments, as they are read.
use Rattle.std.proofs.Common.{◌≡◌, ℕ, suc, ◌+◌, ◌-◌, ◌*◌, ◌<◌, ◌^◌, List, [], ◌∷◌, ◌++◌, length, take, drop, refl, sym}
use Rattle.std.proofs.Common.{ap, ap₂, ◌∙◌, arith, inr, append_assoc, length-append}
use Rattle.std.specs.Int.{w32, w64, from_le_bytes}
use Rattle.std.specs.List.{AllByRecursion, flat_map}
use Rattle.std.proofs.lemmas.List.{drop_at}
use Rattle.std.proofs.lemmas.Nat.{from_le_bytes-to_le_bytes_8, from_le_bytes-to_le_bytes_4, from_le_bytes-to_le_bytes_2}
use Rattle.elf64_core.specs.Fields.{u64_in, u32_in, u16_in}
use Rattle.elf64_core.specs.Header.{HasProgramTable, IsElf64, entry_size, machine_named, machine_of, program_table}
use Rattle.elf64_core.specs.Header.{segment_count, segment_in, segments_from, segments_of}
use Rattle.elf64_core.specs.declared.header.Machine.{Machine}
use Rattle.elf64_core.specs.declared.header.Machine.TheVariants.{X86_64, Aarch64, Other}
use Rattle.elf64_core.specs.declared.segment.Segment.{Segment}
use Rattle.core_slim.specs.Files.{contents_start, file_header, file_of, number_of, program_header}

-- ---- what stands behind other bytes

drop_behind : (front bytes : List ℕ) (o : ℕ) → drop (length front + o) (front ++ bytes) ≡ drop o bytes
drop_behind [] bytes o = let e : 0 + o ≡ o = omega arith in ap (λ k. drop k bytes) e
drop_behind (b ∷ front) bytes o =
    let e : suc (length front) + o ≡ suc (length front + o) = omega arith in
    ap (λ k. drop k (b ∷ (front ++ bytes))) e ∙ drop_behind front bytes o

add_sub : (a n : ℕ) → a + n - a ≡ n
add_sub a n = omega arith

range_behind : (front bytes : List ℕ) (o n : ℕ)
    → take (length front + o + n - (length front + o)) (drop (length front + o) (front ++ bytes)) ≡ take (o + n - o)
    (drop o bytes)
range_behind front bytes o n =
    ap (λ k. take k (drop (length front + o) (front ++ bytes))) (add_sub (length front + o) n ∙ sym (add_sub o n))
    ∙ ap (take (o + n - o)) (drop_behind front bytes o)

u64_behind : (front bytes : List ℕ) (o : ℕ) → u64_in (front ++ bytes) (length front + o) ≡ u64_in bytes o
unfolding u64_in
u64_behind front bytes o = ap (from_le_bytes w64) (range_behind front bytes o 8)

u32_behind : (front bytes : List ℕ) (o : ℕ) → u32_in (front ++ bytes) (length front + o) ≡ u32_in bytes o
unfolding u32_in
u32_behind front bytes o = ap (from_le_bytes w32) (range_behind front bytes o 4)

-- ---- the program headers

-- a segment whose numbers fit their fields
pub record HasRoom (s : Segment) : Type 0 where
  pub kind : s.kind < 2 ^ 32
  pub flags : s.flags < 2 ^ 32
  pub offset : s.offset < 2 ^ 64
  pub addr : s.addr < 2 ^ 64
  pub file_size : s.file_size < 2 ^ 64
  pub mem_size : s.mem_size < 2 ^ 64

pub length-program_header : (s : Segment) → length (program_header s) ≡ 56
unfolding program_header
length-program_header s = refl

header_back : (s : Segment) (rest : List ℕ) → HasRoom s → segment_in (program_header s ++ rest) 0 ≡ s
unfolding program_header segment_in u64_in u32_in
header_back s rest fits =
    let kind = from_le_bytes-to_le_bytes_4 s.kind fits.kind in
    let flags = from_le_bytes-to_le_bytes_4 s.flags fits.flags in
    let offset = from_le_bytes-to_le_bytes_8 s.offset fits.offset in
    let addr = from_le_bytes-to_le_bytes_8 s.addr fits.addr in
    let file_size = from_le_bytes-to_le_bytes_8 s.file_size fits.file_size in
    let mem_size = from_le_bytes-to_le_bytes_8 s.mem_size fits.mem_size in
    λ i. record
    { kind = kind i; flags = flags i; offset = offset i; addr = addr i; file_size = file_size i; mem_size = mem_size i }

segment_behind : (front bytes : List ℕ) → segment_in (front ++ bytes) (length front) ≡ segment_in bytes 0
unfolding segment_in
segment_behind front bytes =
    let kind : u32_in (front ++ bytes) (length front) ≡ u32_in bytes 0 =
    ap (u32_in (front ++ bytes)) (omega arith) ∙ u32_behind front bytes 0 in
    let flags = u32_behind front bytes 4 in
    let offset = u64_behind front bytes 8 in
    let addr = u64_behind front bytes 16 in
    let file_size = u64_behind front bytes 32 in
    let mem_size = u64_behind front bytes 40 in
    λ i. record
    { kind = kind i; flags = flags i; offset = offset i; addr = addr i; file_size = file_size i; mem_size = mem_size i }

segments_back : (front contents : List ℕ) (segments : List Segment) (at : ℕ) → AllByRecursion HasRoom segments
    → at ≡ length front
    → segments_from (front ++ (flat_map program_header segments ++ contents)) at (length segments) ≡ segments
unfolding segments_from
segments_back front contents [] at fits is = refl
segments_back front contents (s ∷ ss) at fits is =
    let more = flat_map program_header ss ++ contents in
    let here : flat_map program_header (s ∷ ss) ++ contents ≡ program_header s ++ more =
    append_assoc (program_header s) (flat_map program_header ss) contents in
    let bytes : front ++ (flat_map program_header (s ∷ ss) ++ contents) ≡ front ++ (program_header s ++ more) =
    ap (λ b. front ++ b) here in
    let next : front ++ (flat_map program_header (s ∷ ss) ++ contents) ≡ (front ++ program_header s) ++ more =
    bytes ∙ sym (append_assoc front (program_header s) more) in
    let one : segment_in (front ++ (flat_map program_header (s ∷ ss) ++ contents)) at ≡ s =
    ap₂ segment_in bytes is ∙ segment_behind front (program_header s ++ more) ∙ header_back s more fits.0 in
    let others : segments_from (front ++ (flat_map program_header (s ∷ ss) ++ contents)) (at + 56) (length ss) ≡ ss =
    ap (λ b. segments_from b (at + 56) (length ss)) next
    ∙ segments_back (front ++ program_header s) contents ss (at + 56) fits.1
    (omega (arith, is, length-append front (program_header s), length-program_header s)) in
    ap₂ (λ x xs. x ∷ xs) one others

-- ---- the header

length-file_header : (machine count : ℕ) → length (file_header machine count) ≡ 64
unfolding file_header
length-file_header machine count = refl

length-headers : (segments : List Segment) → length (flat_map program_header segments) ≡ 56 * length segments
length-headers [] = omega arith
length-headers (s ∷ ss) =
    omega
    (arith, length-append (program_header s) (flat_map program_header ss), length-program_header s, length-headers ss)

machine_back : (machine : Machine) → machine_named (number_of machine) ≡ machine
machine_back X86_64 = refl
machine_back Aarch64 = refl
machine_back Other = refl

machine_fits : (machine : Machine) → number_of machine < 2 ^ 16
machine_fits X86_64 = omega arith
machine_fits Aarch64 = omega arith
machine_fits Other = omega arith

module _ (machine : Machine) (segments : List Segment) (contents : List ℕ) where
  abbrev file : List ℕ
  file = file_of machine segments contents

  table_at : program_table file ≡ 64
  unfolding file_of file_header u64_in
  table_at = refl

  size_at : entry_size file ≡ 56
  unfolding file_of file_header u16_in
  size_at = refl

  count_at : length segments < 2 ^ 16 → segment_count file ≡ length segments
  unfolding file_of file_header u16_in
  count_at few = from_le_bytes-to_le_bytes_2 (length segments) few

  pub file_machine : machine_of file ≡ machine
  unfolding file_of file_header u16_in
  file_machine =
      ap machine_named (from_le_bytes-to_le_bytes_2 (number_of machine) (machine_fits machine)) ∙ machine_back machine

  pub file_length : length file ≡ contents_start (length segments) + length contents
  unfolding file_of
  file_length = omega (
    arith,
    length-append (file_header (number_of machine) (length segments)) (flat_map program_header segments ++ contents),
    length-append (flat_map program_header segments) contents,
    length-file_header (number_of machine) (length segments),
    length-headers segments,
  )

  pub file_contents : drop (contents_start (length segments)) file ≡ contents
  unfolding file_of
  file_contents =
      let front = file_header (number_of machine) (length segments) ++ flat_map program_header segments in
      let long : length front ≡ contents_start (length segments) = omega (
        arith,
        length-append (file_header (number_of machine) (length segments)) (flat_map program_header segments),
        length-file_header (number_of machine) (length segments),
        length-headers segments,
      ) in
      ap (drop (contents_start (length segments)))
      (sym
      (append_assoc (file_header (number_of machine) (length segments)) (flat_map program_header segments) contents))
      ∙ drop_at front contents (contents_start (length segments)) long

  pub file_segments : AllByRecursion HasRoom segments → length segments < 2 ^ 16 → segments_of file ≡ segments
  unfolding file_of
  file_segments fits few =
      ap (λ a. segments_from file a (segment_count file)) table_at ∙ ap (segments_from file 64) (count_at few)
      ∙ segments_back (file_header (number_of machine) (length segments)) contents segments 64 fits
      (sym (length-file_header (number_of machine) (length segments)))

  pub file_header_is : IsElf64 file
  unfolding file_of file_header
  file_header_is = record { whole = omega (arith, file_length); begins = refl }

  pub file_table : length segments < 65535 → HasProgramTable file
  file_table few = record {
    counted = λ e. omega (arith, count_at (omega arith));
    sized = inr size_at;
    inside = inr (omega (arith, count_at (omega arith), table_at, file_length));
  }
