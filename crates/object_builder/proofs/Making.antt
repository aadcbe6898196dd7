-- How the code makes objects.
use Rattle.std.proofs.Common.{◌≡◌, ℕ, zero, suc, ◌+◌, ◌-◌, ◌<◌, ◌≤◌, List, [], ◌∷◌, ◌++◌, length, get_or, refl, sym, ap}
use Rattle.std.proofs.Common.{◌∙◌, arith, take, drop, map, length-append, append_assoc, append-nil}
use Rattle.std.proofs.Math.ListN.{replicate}
use Rattle.std.proofs.Math.Seq.{take-append-add, drop-append-add}
use Rattle.std.proofs.lemmas.List.{drop-drop, drop_more, take_all, length-map, drop_all, drop-map, get_or-map}
use borrow.Rule.Slice.PartMut.{put_mid}
use Rattle.object_builder.specs.Objects.{len_of, bytes_of, Write, put_at, object, write_place, aligned}
use Rattle.object_builder.specs.Sizes.{rounded}
use Rattle.py_fields.specs.Places.{EndBy}
use Rattle.object_builder.specs.Writes.{value_of, write_of}
use Rattle.object_builder.specs.declared.object.Write as w
use Rattle.object_builder.specs.declared.object.Value.TheVariants as v
use Rattle.object_builder.proofs.Objects.{length-bytes_of, length-put_at, length-inside}

-- a write to a part of a slice
pub put_mid_is : (at e : ℕ) (bytes xs ys : List ℕ) → xs ≡ ys → e ≡ at + length ys
    → put_mid at (e - at) bytes xs ≡ put_at at ys bytes
unfolding put_at
put_mid_is at e bytes xs ys same len =
    let k : e - at ≡ length ys = omega arith in
    rw (same, k) (ap (λ u. take at bytes ++ (ys ++ u)) (drop-drop (length ys) at bytes))

-- the same behind other bytes
pub put_behind : (before o xs : List ℕ) (at : ℕ) → put_at (length before + at) xs (before ++ o) ≡ before
    ++ put_at at xs o
unfolding put_at
put_behind before o xs at =
    let e : length before + at + length xs ≡ length before + (at + length xs) = omega arith in
    rw (e, take-append-add before o at, drop-append-add before o (at + length xs))
    (append_assoc before (take at o) (xs ++ drop (at + length xs) o))

pub group_at : (n : ℕ) (ws : List Write) (i : ℕ) (d : Write) → i < length ws → EndBy n (map write_place ws)
    → (get_or ws i d).at + len_of (get_or ws i d).value ≤ n
group_at n [] i d lt g = absurd (omega arith)
group_at n (w ∷ ws) zero d lt g = g.0
group_at n (w ∷ ws) (suc i) d lt g = group_at n ws i d (omega arith) g.1

pub group_drop : (n : ℕ) (ws : List Write) (i : ℕ) → EndBy n (map write_place ws)
    → EndBy n (map write_place (drop i ws))
group_drop n ws zero g = g
group_drop n [] (suc i) g = tt
group_drop n (w ∷ ws) (suc i) g = group_drop n ws i g.1

-- one more write
pub object_more : (n : ℕ) (ws : List Write) (i : ℕ) (d : Write) → i < length ws
    → object n (drop i ws) ≡ put_at (get_or ws i d).at (bytes_of (get_or ws i d).value) (object n (drop (i + 1) ws))
unfolding object
object_more n ws i d lt = ap (object n) (drop_more ws i d lt)

pub object_none : (n : ℕ) (ws : List Write) (i : ℕ) → length ws ≤ i → object n (drop i ws) ≡ replicate n 0
unfolding object
object_none n ws i le = ap (object n) (drop_all i ws le)

-- an object that is filled up to a multiple of 16
pub padded_is : (before o : List ℕ) (n k : ℕ) → length o ≡ n → k ≡ length before + rounded n
    → (before ++ o) ++ replicate (k - length (before ++ o)) 0 ≡ before ++ aligned o
unfolding aligned
padded_is before o n k len is =
    let fill : k - length (before ++ o) ≡ rounded (length o) - length o =
    omega (arith, length-append before o, ap rounded len) in
    rw fill (append_assoc before o (replicate (rounded (length o) - length o) 0))

-- ---- the steps of `add_object`

-- what an index past the end gives
abbrev pub no_write : w.Write
no_write = record { at = 0; value = v.U64 0 }

pub write_within : (size : ℕ) (ws : List w.Write) (i : ℕ) (d : w.Write) → i < length ws
    → EndBy size (map write_place (map write_of ws)) → (get_or ws i d).at + len_of
    (value_of (get_or ws i d).value) ≤ size
write_within size ws i d lt g =
    let is : get_or (map write_of ws) i (write_of d) ≡ write_of (get_or ws i d) =
    get_or-map write_of ws i d (write_of d) lt in
    rw is at (group_at size (map write_of ws) i (write_of d) (omega (arith, length-map ws write_of)) g)

pub written_back : (n : ℕ) (new items : List ℕ) → length new ≡ length items → n ≡ length items
    → take n (new ++ drop (length new) items) ≡ new
written_back n new items len is =
    rw (drop_all (length new) items (omega arith), append-nil new) (take_all n new (omega arith))

resized : (before : List ℕ) (k n : ℕ) → length before ≤ k →
    take k before ++ replicate (k - n) 0 ≡ before ++ replicate (k - n) 0
resized before k n le = ap (λ u. u ++ replicate (k - n) 0) (take_all k before le)

pub making_none : (before out : List ℕ) (size : ℕ) (ws : List w.Write) (k n : ℕ) → k ≡ length before + size
    → n ≡ length before → out ≡ take k before ++ replicate (k - n) 0
    → out ≡ before ++ object size (map write_of (drop (length ws) ws))
making_none before out size ws k n k_is n_is e =
    let fill : k - n ≡ size = omega arith in
    let none : object size (map write_of (drop (length ws) ws)) ≡ replicate size 0 =
    ap (object size) (sym (drop-map write_of (length ws) ws))
    ∙ object_none size (map write_of ws) (length ws) (omega (arith, length-map ws write_of)) in
    e ∙ resized before k n (omega arith) ∙ ap (λ u. before ++ u) (ap (λ (u : ℕ). replicate u 0) fill ∙ sym none)

module _ (before out : List ℕ) (size : ℕ) (ws : List w.Write) (left : ℕ)
    (group : EndBy size (map write_place (map write_of ws))) (is : out ≡ before
    ++ object size (map write_of (drop left ws))) where
  pub length-making : length out ≡ length before + size
  length-making =
      let g : EndBy size (map write_place (map write_of (drop left ws))) =
      rw (drop-map write_of left ws) at (group_drop size (map write_of ws) left group) in
      omega (
        arith,
        ap length is,
        length-append before (object size (map write_of (drop left ws))),
        length-inside size (map write_of (drop left ws)) g,
      )

  pub making_more : (d : w.Write) → 0 < left → left ≤ length ws
      → put_at (length before + (get_or ws (left - 1) d).at) (bytes_of (value_of (get_or ws (left - 1) d).value)) out
      ≡ before ++ object size (map write_of (drop (left - 1) ws))
  making_more d some within =
      let item : get_or (map write_of ws) (left - 1) (write_of d) ≡ write_of (get_or ws (left - 1) d) =
      get_or-map write_of ws (left - 1) d (write_of d) (omega arith) in
      let one : object size (drop (left - 1) (map write_of ws))
      ≡ put_at (get_or ws (left - 1) d).at (bytes_of (value_of (get_or ws (left - 1) d).value))
      (object size (drop (left - 1 + 1) (map write_of ws))) =
      rw item at (object_more size (map write_of ws) (left - 1) (write_of d) (omega (arith, length-map ws write_of))) in
      let same : left - 1 + 1 ≡ left = omega arith in
      let w = get_or ws (left - 1) d in
      ap (put_at (length before + w.at) (bytes_of (value_of w.value))) is ∙
      put_behind before (object size (map write_of (drop left ws))) (bytes_of (value_of w.value)) w.at ∙
      ap (λ u. before ++ u) (ap (put_at w.at (bytes_of (value_of w.value)))
      (ap (object size) (sym (drop-map write_of left ws) ∙ ap (λ k. drop k (map write_of ws)) (sym same))) ∙ sym one
      ∙ ap (object size) (drop-map write_of (left - 1) ws))

  pub making_step : (d : w.Write) (start n : ℕ) (new : List ℕ) → 0 < left → left ≤ length ws → start ≡ length before
      → n ≡ length out → new ≡ put_at (start + (get_or ws (left - 1) d).at)
      (bytes_of (value_of (get_or ws (left - 1) d).value)) out
      → take n (new ++ drop (length new) out) ≡ before ++ object size (map write_of (drop (left - 1) ws))
  making_step d start n new some within start_is n_is e =
      let w = get_or ws (left - 1) d in
      let fits = write_within size ws (left - 1) d (omega arith) group in
      let inside : start + w.at + length (bytes_of (value_of w.value)) ≤ length out =
      omega (arith, length-making, length-bytes_of (value_of w.value)) in
      let len : length new ≡ length out = ap length e ∙ length-put_at (start + w.at)
      (bytes_of (value_of w.value)) out inside in
      written_back n new out len n_is ∙ e ∙ rw start_is (making_more d some within)

  pub making_done : (made : List ℕ) (k n : ℕ) → left ≡ 0 → k ≡ length before + rounded size → n ≡ length out
      → made ≡ take k out ++ replicate (k - n) 0 → made ≡ before ++ aligned (object size (map write_of ws))
  making_done made k n none k_is n_is e =
      let o = object size (map write_of ws) in
      let all : drop left ws ≡ ws = rw none refl in
      let is2 : out ≡ before ++ o = rw all at is in
      let len : length o ≡ size = length-inside size (map write_of ws) group in
      e ∙ resized out k n (omega (arith, length-making)) ∙ rw (n_is, is2) (padded_is before o size k len k_is)
