-- Reading bytes that stand in memory.
use Rattle.std.proofs.Common.{◌≡◌, map, ℕ, zero, suc, ◌+◌, ◌-◌, ◌<◌, ◌≤◌, ◌^◌, true, false, cond, ltb, leb, List, ◌∷◌}
use Rattle.std.proofs.Common.{◌++◌, length, refl, sym, ap, ◌∙◌, arith, take, length-append, inl, inr, add-zero}
use Rattle.std.proofs.Common.{add_assoc}
use Rattle.std.specs.Prelude.{slice_get, Some, None, Ok}
use Rattle.std.proofs.Math.ListN.{replicate}
use Rattle.std.proofs.lemmas.List.{get_or_append_left, get_or-append-add, length-replicate}
use Rattle.std.proofs.lemmas.Option.{slice_get-get_or, slice_get_past}
use Rattle.std.proofs.lemmas.Bool.{lt-ltb, le-leb, lt-leb}
use Rattle.process_memory.specs.Memory.{Memory, Region, byte_at, region_byte, record_at, word_at}
use Rattle.process_memory.proofs.Records.{record_each, record_none}
use Rattle.std.proofs.lemmas.Nat.{from_le_bytes-to_le_bytes_8}
use Rattle.py_fields.specs.Places.{IsGroup}
use Rattle.object_builder.specs.Objects.{Write, bytes_of, len_of, object, write_place, part, aligned}
use Rattle.object_builder.specs.Sizes.{rounded}
use Rattle.object_builder.specs.Objects.Value.{U64}
use Rattle.object_builder.specs.Placing.{Stands, Misses}
use Rattle.object_builder.proofs.Objects.{length-part, get_or-part, length-object, part-object, within}

pub stands_left : {m : Memory} {a : ℕ} (xs ys : List ℕ) → Stands m a (xs ++ ys) → Stands m a xs
stands_left {m} {a} xs ys s = record {
  ends = omega (arith, s.ends, length-append xs ys);
  each = λ k lt. s.each k (omega (arith, length-append xs ys)) ∙ ap Some (get_or_append_left xs ys 0 k lt);
}

pub stands_right : {m : Memory} {a : ℕ} (xs ys : List ℕ) → Stands m a (xs ++ ys) → Stands m (a + length xs) ys
stands_right {m} {a} xs ys s = record {
  ends = omega (arith, s.ends, length-append xs ys);
  each = λ k lt. rw (add_assoc a (length xs) k) (s.each (length xs + k) (omega (arith, length-append xs ys))
      ∙ ap Some (get_or-append-add xs ys k 0));
}

-- a record is read within its own bytes
pub record_stands : {m : Memory} {a : ℕ} {bytes : List ℕ} (at n : ℕ) → Stands m a bytes → at + n ≤ length bytes
    → record_at m (a + at) n ≡ Ok (part at n bytes)
record_stands {m} {a} {bytes} at zero s h = record_none m (a + at)
record_stands {m} {a} {bytes} at (suc n) s h =
    let len : length (part at (suc n) bytes) ≡ suc n = length-part at (suc n) bytes h in
    rw len at (record_each m (a + at) (part at (suc n) bytes) (omega (arith, s.ends))
    (λ k lt. rw (add_assoc a at k) (s.each (at + k) (omega arith)
    ∙ ap Some (sym (get_or-part at (suc n) bytes k 0 (omega arith))))))

pub record_stands_first : {m : Memory} {a : ℕ} {bytes : List ℕ} (n : ℕ) → Stands m a bytes → n ≤ length bytes
    → record_at m a n ≡ Ok (take n bytes)
record_stands_first {m} {a} {bytes} n s h = rw add-zero at (record_stands 0 n s (omega arith))

-- an object in front of others
pub stands_object : {m : Memory} {a : ℕ} (o rest : List ℕ) → Stands m a (aligned o ++ rest) → Stands m a o
unfolding aligned
stands_object o rest s = stands_left o _ (stands_left _ rest s)

pub stands_last : {m : Memory} {a : ℕ} (o : List ℕ) → Stands m a (aligned o) → Stands m a o
unfolding aligned
stands_last o s = stands_left o _ s

pub length-aligned : (o : List ℕ) → length (aligned o) ≡ rounded (length o)
unfolding aligned
length-aligned o = omega (
  arith,
  length-append o (replicate {A = ℕ} (rounded (length o) - length o) 0),
  length-replicate {A = ℕ} (rounded (length o) - length o) 0,
)

pub stands_rest : {m : Memory} {a : ℕ} (o rest : List ℕ) (n : ℕ) → length o ≡ n → Stands m a (aligned o ++ rest)
    → Stands m (a + rounded n) rest
stands_rest o rest n len s = rw (length-aligned o, len) at (stands_right (aligned o) rest s)

-- a piece of memory stands there, behind pieces that it doesn't meet
pub stands_first : (a : ℕ) (bytes : List ℕ) (ps : List Region) → a + length bytes < 2 ^ 63
    → Stands (byte_at ((a, bytes) ∷ ps)) a bytes
unfolding byte_at
stands_first a bytes ps h = record {
  ends = h;
  each = λ k lt.
      let below : ltb (a + k) (2 ^ 64 - 1) ≡ true = lt-ltb (a + k) (2 ^ 64 - 1) (omega arith) in
      let from : leb a (a + k) ≡ true = le-leb a (a + k) (omega arith) in
      let off : a + k - a ≡ k = omega arith in
      rw (below, from, off, slice_get-get_or bytes k 0 lt) refl;
}

region_misses : (p : Region) (a : ℕ) → Misses p a 1 → region_byte p a ≡ None
region_misses p a (inl below) =
    elim (leb p.0 a) as (λ t. cond t (slice_get p.1 (a - p.0)) None ≡ None) [
      | true ↦
          slice_get_past p.1 (a - p.0) (omega arith)
      | false ↦ refl
    ]
region_misses p a (inr above) = let no : leb p.0 a ≡ false = lt-leb p.0 a (omega arith) in rw no refl

pub stands_behind : (p : Region) (ps : List Region) (a : ℕ) (bytes : List ℕ) → Misses p a (length bytes)
    → Stands (byte_at ps) a bytes → Stands (byte_at (p ∷ ps)) a bytes
unfolding byte_at
stands_behind p ps a bytes apart s = record {
  ends = s.ends;
  each = λ k lt.
      let none : region_byte p (a + k) ≡ None = region_misses p (a + k) (elim apart [
        | inl below ↦
            inl (omega arith)
        | inr above ↦ inr (omega arith)
      ]) in
      rw none (s.each k lt);
}

-- a part of what stands, and what was written into it
pub stands_part : {m : Memory} {a : ℕ} {bytes : List ℕ} (at n : ℕ) → at + n ≤ length bytes → Stands m a bytes
    → Stands m (a + at) (part at n bytes)
stands_part {m} {a} {bytes} at n h s = record {
  ends = omega (arith, s.ends, length-part at n bytes h);
  each = λ k lt.
      let below : k < n = omega (arith, length-part at n bytes h) in
      rw (add_assoc a at k) (s.each (at + k) (omega arith) ∙ ap Some (sym (get_or-part at n bytes k 0 below)));
}

pub stands_write : {m : Memory} {a : ℕ} (n : ℕ) (ws : List Write) (i : ℕ) (w : Write) → IsGroup n (map write_place ws)
    → slice_get ws i ≡ Some w → Stands m a (object n ws) → Stands m (a + w.at) (bytes_of w.value)
stands_write n ws i w g e s =
    rw (part-object n ws i w g e) at (stands_part w.at (len_of w.value) (omega (
      arith,
      length-object n ws g,
      within n ws i w g e,
    )) s)

pub word_stands : {m : Memory} {a : ℕ} (n : ℕ) (ws : List Write) (i at v : ℕ) → IsGroup n (map write_place ws)
    → slice_get ws i ≡ Some (record { at = at; value = U64 v }) → v < 2 ^ 64 → Stands m a (object n ws)
    → word_at m (a + at) ≡ Ok v
unfolding word_at bytes_of
word_stands n ws i at v g e fits s =
    let here : at + 8 ≤ n = within n ws i (record { at = at; value = U64 v }) g e in
    rw (
      record_stands at 8 s (omega (arith, length-object n ws g)),
      part-object n ws i (record { at = at; value = U64 v }) g e,
    ) (ap Ok (from_le_bytes-to_le_bytes_8 v fits))
