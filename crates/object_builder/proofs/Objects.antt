-- What was written reads back.
use Rattle.std.proofs.Common.{◌≡◌, ℕ, zero, suc, ◌+◌, ◌-◌, ◌<◌, ◌≤◌, ◌^◌, List, [], ◌∷◌, ◌++◌, length, get_or, refl}
use Rattle.std.proofs.Common.{sym, ap, ◌∙◌, arith, take, drop, length-append, inl, inr}
use Rattle.std.specs.Prelude.{slice_get, Some, map}
use Rattle.std.specs.Int.{w32, w64, from_le_bytes}
use Rattle.std.proofs.lemmas.List.{same_lists, get_or-take, get_or-drop, get_or_append_left, get_or-append_right}
use Rattle.std.proofs.lemmas.List.{length-take, length-drop, length-replicate, take_at, drop_at, length-take-le}
use Rattle.std.proofs.lemmas.Nat.{from_le_bytes-to_le_bytes_8, from_le_bytes-to_le_bytes_4}
use Rattle.elf64_core.specs.Fields.{u64_in, u32_in, u8_in}
use Rattle.py_fields.specs.Places.{Place, Apart, ApartFrom, EndBy, IsGroup}
use Rattle.object_builder.specs.Objects.{Value, len_of, bytes_of, Write, put_at, object, write_place, part}
use Rattle.object_builder.specs.Objects.Value.{U64, U32, U16, U8, Bytes}

pub length-bytes_of : (v : Value) → length (bytes_of v) ≡ len_of v
unfolding bytes_of
length-bytes_of (U64 n) = refl
length-bytes_of (U32 n) = refl
length-bytes_of (U16 n) = refl
length-bytes_of (U8 n) = refl
length-bytes_of (Bytes bytes) = refl

pub length-put_at : (at : ℕ) (xs bytes : List ℕ) → at + length xs ≤ length bytes
    → length (put_at at xs bytes) ≡ length bytes
unfolding put_at
length-put_at at xs bytes h = simp (length-append, length-take, length-drop) (omega arith)

pub part-put_same : (at : ℕ) (xs bytes : List ℕ) → at + length xs ≤ length bytes
    → part at (length xs) (put_at at xs bytes) ≡ xs
unfolding put_at
part-put_same at xs bytes h =
    rw (drop_at (take at bytes) (xs ++ drop (at + length xs) bytes) at (length-take-le at bytes (omega arith)))
    (take_at xs (drop (at + length xs) bytes) (length xs) refl)

-- an element outside of what was put_at
get_or-put_below : (at : ℕ) (xs bytes : List ℕ) (i d : ℕ) → at + length xs ≤ length bytes → i < at
    → get_or (put_at at xs bytes) i d ≡ get_or bytes i d
unfolding put_at
get_or-put_below at xs bytes i d h below =
    get_or_append_left (take at bytes) (xs ++ drop (at + length xs) bytes) d i (omega (
      arith,
      length-take-le at bytes (omega arith),
    )) ∙ get_or-take at bytes i d below

get_or-put_above : (at : ℕ) (xs bytes : List ℕ) (i d : ℕ) → at + length xs ≤ length bytes → at + length xs ≤ i
    → get_or (put_at at xs bytes) i d ≡ get_or bytes i d
unfolding put_at
get_or-put_above at xs bytes i d h above =
    get_or-append_right (take at bytes) (xs ++ drop (at + length xs) bytes) at i d
    (length-take-le at bytes (omega arith)) (omega arith) ∙
    get_or-append_right xs (drop (at + length xs) bytes) (length xs) (i - at) d refl (omega arith) ∙
    get_or-drop (at + length xs) bytes (i - at - length xs) d ∙ ap (λ k. get_or bytes k d) (omega arith)

pub length-part : (at n : ℕ) (bytes : List ℕ) → at + n ≤ length bytes → length (part at n bytes) ≡ n
length-part at n bytes h = length-take-le n (drop at bytes) (omega (arith, length-drop at bytes))

pub get_or-part : (at n : ℕ) (bytes : List ℕ) (k d : ℕ) → k < n → get_or (part at n bytes) k d ≡ get_or bytes (at + k) d
get_or-part at n bytes k d h = get_or-take n (drop at bytes) k d h ∙ get_or-drop at bytes k d

pub part-put_other : (at : ℕ) (xs bytes : List ℕ) (a n : ℕ) → at + length xs ≤ length bytes → a + n ≤ length bytes
    → Apart (at, length xs) (a, n) → part a n (put_at at xs bytes) ≡ part a n bytes
part-put_other at xs bytes a n h within apart =
    let whole : length (put_at at xs bytes) ≡ length bytes = length-put_at at xs bytes h in
    let left : length (part a n (put_at at xs bytes)) ≡ n = length-part a n (put_at at xs bytes) (omega arith) in
    same_lists _ _ (left ∙ sym (length-part a n bytes within))
    (λ k d lt. let lt2 : k < n = omega arith in
    get_or-part a n (put_at at xs bytes) k d lt2 ∙
    elim apart as (λ _. get_or (put_at at xs bytes) (a + k) d ≡ get_or bytes (a + k) d) [
      | inl before ↦
          get_or-put_above at xs bytes (a + k) d h (omega arith)
      | inr after ↦
          get_or-put_below at xs bytes (a + k) d h (omega arith)
    ] ∙
    sym (get_or-part a n bytes k d lt2))

-- the places behind the first
pub group_rest : {n : ℕ} {p : Place} {ps : List Place} → IsGroup n (p ∷ ps) → IsGroup n ps
group_rest g = record { inside = g.inside.1; apart = g.apart.1 }

pub length-inside : (n : ℕ) (ws : List Write) → EndBy n (map write_place ws) → length (object n ws) ≡ n
unfolding object
length-inside n [] g = length-replicate n 0
length-inside n (w ∷ ws) g =
    let rest : length (object n ws) ≡ n = length-inside n ws g.1 in
    let here : w.at + len_of w.value ≤ n = g.0 in
    length-put_at w.at (bytes_of w.value) (object n ws) (omega (arith, length-bytes_of w.value)) ∙ rest

pub length-object : (n : ℕ) (ws : List Write) → IsGroup n (map write_place ws) → length (object n ws) ≡ n
length-object n ws g = length-inside n ws g.inside

-- a place apart from some writes
pub part-object_more : (n : ℕ) (ws : List Write) (w : Write) (a k : ℕ) → IsGroup n (map write_place (w ∷ ws))
    → a + k ≤ n → Apart (write_place w) (a, k) → part a k (object n (w ∷ ws)) ≡ part a k (object n ws)
unfolding object
part-object_more n ws w a k g within apart =
    let len = length-bytes_of w.value in
    let rest : length (object n ws) ≡ n = length-object n ws (group_rest g) in
    part-put_other w.at (bytes_of w.value) (object n ws) a k (omega arith) (omega arith) (rw len apart)

part-object_head : (n : ℕ) (v : Write) (ws : List Write) → IsGroup n (map write_place (v ∷ ws))
    → part v.at (len_of v.value) (object n (v ∷ ws)) ≡ bytes_of v.value
unfolding object
part-object_head n v ws g =
    let len = length-bytes_of v.value in
    let rest : length (object n ws) ≡ n = length-object n ws (group_rest g) in
    rw (← len) (part-put_same v.at (bytes_of v.value) (object n ws) (omega arith))

-- each write lies inside
pub within : (n : ℕ) (ws : List Write) (i : ℕ) (w : Write) → IsGroup n (map write_place ws) → slice_get ws i ≡ Some w
    → w.at + len_of w.value ≤ n
within n [] i w g e = absurd (cc)
within n (v ∷ ws) zero w g e = let same : v ≡ w = cc in rw (← same) g.inside.0
within n (v ∷ ws) (suc i) w g e = within n ws i w (group_rest g) e

-- what was written at a place
pub part-object : (n : ℕ) (ws : List Write) (i : ℕ) (w : Write) → IsGroup n (map write_place ws)
    → slice_get ws i ≡ Some w → part w.at (len_of w.value) (object n ws) ≡ bytes_of w.value
part-object n [] i w g e = absurd (cc)
part-object n (v ∷ ws) zero w g e =
    let same : v ≡ w = cc in
    rw (← same) (part-object_head n v ws g)
part-object n (v ∷ ws) (suc i) w g e =
    part-object_more n ws v w.at (len_of w.value) g (within n ws i w (group_rest g) e)
    (apart (write_place v) ws i w g.apart.0 e) ∙ part-object n ws i w (group_rest g) e
  where
    apart : (p : Place) (ws : List Write) (i : ℕ) (w : Write) → ApartFrom p (map write_place ws)
        → slice_get ws i ≡ Some w → Apart p (write_place w)
    apart p [] i w g e = absurd (cc)
    apart p (v ∷ ws) zero w g e = let same : v ≡ w = cc in rw (← same) g.0
    apart p (v ∷ ws) (suc i) w g e = apart p ws i w g.1 e

add_sub : (a n : ℕ) → a + n - a ≡ n
add_sub a n = omega arith

-- a field of a record that is the first part of an object
pub part-take : (size at n : ℕ) (bytes : List ℕ) → at + n ≤ size → size ≤ length bytes
    → part at n (take size bytes) ≡ part at n bytes
part-take size at n bytes h within =
    let len : length (take size bytes) ≡ size = length-take-le size bytes within in
    let left : length (part at n (take size bytes)) ≡ n = length-part at n (take size bytes) (omega arith) in
    same_lists _ _ (left ∙ sym (length-part at n bytes (omega arith)))
    (λ k d lt. let lt2 : k < n = omega arith in
    get_or-part at n (take size bytes) k d lt2 ∙ get_or-take size bytes (at + k) d (omega arith)
    ∙ sym (get_or-part at n bytes k d lt2))

-- the fields of a record, where an object of some writes begins with it
module _ (len : ℕ) (ws : List Write) (group : IsGroup len (map write_place ws)) (size : ℕ) (le : size ≤ len) where
  pub part_read : (i : ℕ) (w : Write) → slice_get ws i ≡ Some w → w.at + len_of w.value ≤ size
      → part w.at (len_of w.value) (take size (object len ws)) ≡ bytes_of w.value
  part_read i w e h = part-take size w.at (len_of w.value) (object len ws) h (omega (arith, length-object len ws group))
      ∙ part-object len ws i w group e

  pub u64_read : (i at v : ℕ) → slice_get ws i ≡ Some (record { at = at; value = U64 v }) → v < 2 ^ 64 → at + 8 ≤ size
      → u64_in (take size (object len ws)) at ≡ v
  unfolding u64_in bytes_of
  u64_read i at v e fits h =
      ap (from_le_bytes w64) (ap (λ k. take k (drop at (take size (object len ws)))) (add_sub at 8)
      ∙ part_read i (record { at = at; value = U64 v }) e h) ∙ from_le_bytes-to_le_bytes_8 v fits

  pub u32_read : (i at v : ℕ) → slice_get ws i ≡ Some (record { at = at; value = U32 v }) → v < 2 ^ 32 → at + 4 ≤ size
      → u32_in (take size (object len ws)) at ≡ v
  unfolding u32_in bytes_of
  u32_read i at v e fits h =
      ap (from_le_bytes w32) (ap (λ k. take k (drop at (take size (object len ws)))) (add_sub at 4)
      ∙ part_read i (record { at = at; value = U32 v }) e h) ∙ from_le_bytes-to_le_bytes_4 v fits

  pub u8_read : (i at v : ℕ) → slice_get ws i ≡ Some (record { at = at; value = U8 v }) → at + 1 ≤ size
      → u8_in (take size (object len ws)) at ≡ v
  unfolding u8_in bytes_of
  u8_read i at v e h =
      let one = part_read i (record { at = at; value = U8 v }) e h in
      let same : get_or (take 1 (drop at (take size (object len ws)))) 0 0 ≡ v = ap (λ xs. get_or xs 0 0) one in
      let here : at ≡ at + 0 = omega arith in
      ap (λ i. get_or (take size (object len ws)) i 0) here
      ∙ sym (get_or-part at 1 (take size (object len ws)) 0 0 (omega arith)) ∙ same
