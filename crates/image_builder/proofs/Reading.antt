-- What was written into a file is read there. A file is a memory from 0 on.
use Rattle.std.proofs.Common.{◌≡◌, ℕ, zero, suc, ◌+◌, ◌-◌, ◌<◌, ◌≤◌, ◌^◌, List, [], ◌∷◌, length, refl, ap, ◌∙◌, arith}
use Rattle.std.proofs.Common.{take, drop, inl, inr, get_or, subst}
use Rattle.std.specs.Prelude.{Some, ◌⊎◌, slice_get}
use Rattle.std.specs.Int.{w16, w32, w64, from_le_bytes}
use Rattle.std.proofs.lemmas.List.{same_lists, get_or_default}
use Rattle.std.proofs.lemmas.Option.{slice_get-get_or, slice_get_within, get_or_from_slice_get}
use Rattle.std.proofs.lemmas.Nat.{from_le_bytes-to_le_bytes_8, from_le_bytes-to_le_bytes_4, from_le_bytes-to_le_bytes_2}
use Rattle.process_memory.specs.Memory.{Memory}
use Rattle.elf64_core.specs.Fields.{u64_in, u32_in, u16_in, u8_in}
use Rattle.object_builder.specs.Objects.{Value, bytes_of, len_of, part}
use Rattle.object_builder.specs.Objects.Value.{U64, U32, U16, U8}
use Rattle.object_builder.specs.Placing.{Stands}
use Rattle.object_builder.proofs.Objects.{length-bytes_of, length-part, get_or-part}
use Rattle.object_builder.proofs.Placing.{stands_left, stands_right}
use Rattle.image_builder.specs.Records.{filled, record_of}

-- ---- files

pub file_stands : (file : List ℕ) → length file < 2 ^ 63 → Stands (slice_get file) 0 file
file_stands file h = record {
  ends = omega arith;
  each = λ k lt. let e : 0 + k ≡ k = omega arith in
      rw e (slice_get-get_or file k 0 lt);
}

-- what stands in a file is a part of it
pub part_file : (file : List ℕ) (at : ℕ) (bs : List ℕ) → Stands (slice_get file) at bs → part at (length bs) file ≡ bs
part_file file at [] s = refl
part_file file at (b ∷ bs) s =
    let last = slice_get_within file (at + length bs) _ (s.each (length bs) (omega arith)) in
    let len : length (part at (length (b ∷ bs)) file) ≡ length (b ∷ bs) =
    length-part at (length (b ∷ bs)) file (omega arith) in
    same_lists _ _ len (λ k d lt. get_or-part at (length (b ∷ bs)) file k d (omega arith)
    ∙ get_or_from_slice_get file (at + k) (get_or (b ∷ bs) k 0) d (s.each k (omega arith))
    ∙ default k d (omega arith))
  where
    default : (k d : ℕ) → k < length (b ∷ bs) → get_or (b ∷ bs) k 0 ≡ get_or (b ∷ bs) k d
    default k d lt = get_or_default (b ∷ bs) k 0 d lt

-- it lies in the file
pub inside_file : (file : List ℕ) (at : ℕ) (bs : List ℕ) → Stands (slice_get file) at bs
    → (length bs ≡ 0) ⊎ (at + length bs ≤ length file)
inside_file file at [] s = inl refl
inside_file file at (b ∷ bs) s = inr (omega (
  arith,
  slice_get_within file (at + length bs) _
      (s.each (length bs) (omega arith)),
))

-- what is filled up stands as it is
pub filled_stands : {m : Memory} {a : ℕ} (n : ℕ) (bytes : List ℕ) → Stands m a (filled n bytes) → Stands m a bytes
unfolding filled
filled_stands n bytes s = stands_left bytes _ s

-- ---- records

-- how far behind the start a field stands
abbrev pub ahead : ℕ → List Value → ℕ
ahead zero vs = 0
ahead (suc i) [] = 0
ahead (suc i) (v ∷ vs) = len_of v + ahead i vs

pub field_stands : {m : Memory} (a : ℕ) (vs : List Value) (i : ℕ) (v : Value) → slice_get vs i ≡ Some v
    → Stands m a (record_of vs) → Stands m (a + ahead i vs) (bytes_of v)
unfolding record_of
field_stands a [] i v e s = absurd (cc)
field_stands {m} a (x ∷ xs) zero v e s =
    let same : x ≡ v = cc in
    let here : a ≡ a + 0 = omega arith in
    subst (λ y. Stands m (a + 0) (bytes_of y)) same (rw here at (stands_left (bytes_of x) (record_of xs) s))
field_stands {m} a (x ∷ xs) (suc i) v e s =
    let rest : Stands m (a + len_of x) (record_of xs) = rw (length-bytes_of x) at
    (stands_right (bytes_of x) (record_of xs) s) in
    let far : a + len_of x + ahead i xs ≡ a + (len_of x + ahead i xs) = omega arith in
    subst (λ n. Stands m n (bytes_of v)) far (field_stands (a + len_of x) xs i v e rest)

add_sub : (a n : ℕ) → a + n - a ≡ n
add_sub a n = omega arith

module _ (file : List ℕ) (at : ℕ) (vs : List Value) (s : Stands (slice_get file) at (record_of vs)) where
  pub u64_field : (i n : ℕ) → slice_get vs i ≡ Some (U64 n) → n < 2 ^ 64 → u64_in file (at + ahead i vs) ≡ n
  unfolding u64_in bytes_of
  u64_field i n e fits =
      let o = at + ahead i vs in
      ap (from_le_bytes w64) (ap (λ k. take k (drop o file)) (add_sub o 8)
      ∙ part_file file o (bytes_of (U64 n)) (field_stands at vs i (U64 n) e s)) ∙ from_le_bytes-to_le_bytes_8 n fits

  pub u32_field : (i n : ℕ) → slice_get vs i ≡ Some (U32 n) → n < 2 ^ 32 → u32_in file (at + ahead i vs) ≡ n
  unfolding u32_in bytes_of
  u32_field i n e fits =
      let o = at + ahead i vs in
      ap (from_le_bytes w32) (ap (λ k. take k (drop o file)) (add_sub o 4)
      ∙ part_file file o (bytes_of (U32 n)) (field_stands at vs i (U32 n) e s)) ∙ from_le_bytes-to_le_bytes_4 n fits

  pub u16_field : (i n : ℕ) → slice_get vs i ≡ Some (U16 n) → n < 2 ^ 16 → u16_in file (at + ahead i vs) ≡ n
  unfolding u16_in bytes_of
  u16_field i n e fits =
      let o = at + ahead i vs in
      ap (from_le_bytes w16) (ap (λ k. take k (drop o file)) (add_sub o 2)
      ∙ part_file file o (bytes_of (U16 n)) (field_stands at vs i (U16 n) e s)) ∙ from_le_bytes-to_le_bytes_2 n fits

  pub u8_field : (i n : ℕ) → slice_get vs i ≡ Some (U8 n) → u8_in file (at + ahead i vs) ≡ n
  unfolding u8_in bytes_of
  u8_field i n e =
      let o = at + ahead i vs in
      let here : o ≡ o + 0 = omega arith in
      ap (λ k. get_or file k 0) here ∙ get_or_from_slice_get file (o + 0) n 0
      ((field_stands at vs i (U8 n) e s).each 0 (omega arith))
