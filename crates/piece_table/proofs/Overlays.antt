-- Pieces of ranges: that those of one half, laid over those of the other, are those of all.
use Rattle.std.proofs.Common.{◌≡◌, ◌⊎◌, ℕ, zero, suc, ◌+◌, ◌-◌, ◌<◌, ◌≤◌, ◌^◌, leb, min, max, Bool, true, false, not}
use Rattle.std.proofs.Common.{cond, List, [], ◌∷◌, ◌++◌, length, get_or, refl, sym, ap, subst, ◌∙◌, arith, inl, inr}
use Rattle.std.proofs.Common.{⊎_elim, length-append, take, drop, take-append-drop}
use Rattle.std.specs.Prelude.{Option, Some, None, All, option_map, slice_get}
use Rattle.std.specs.List.{AllByRecursion, cons_option, position_or_len}
use Rattle.std.proofs.lemmas.Bool.{cases_lt, leb-false, leb-true}
use Rattle.std.proofs.lemmas.Bool.Decides.{nat_tests}
use Rattle.std.proofs.lemmas.List.Sums.{fails_before_first, passes_at_first}
use Rattle.std.proofs.lemmas.Option.{same_Some, slice_get-get_or}
use Rattle.elf64_core.specs.declared.span_table.TableEntry.{TableEntry}
use Rattle.piece_table.specs.declared.overlay.Owned.{Owned}
use Rattle.piece_table.specs.Overlays.{IsPieceOf, IsBoundedRange, found_by, owner_of, spans}
use Rattle.piece_table.specs.Laid.{AnyHolds, AreLaid, HasPieceRoom, HaveRoom, Holds, Rises, piece_end, overlaid}
use Rattle.piece_table.specs.Laid.{part_between, parts_between}

pub spans_within : (addr : ℕ) (r : TableEntry) → r.start ≤ addr → addr < r.start + r.len → spans addr r ≡ true
spans_within addr r le less = grind (arith, nat_tests)

pub spans_from : (addr : ℕ) (r : TableEntry) → spans addr r ≡ true → (r.start ≤ addr) × (addr < r.start + r.len)
spans_from addr r h = (grind (arith, nat_tests), grind (arith, nat_tests))

-- the first place at which a test passes, of two lists together
first-front : {X : Type 0} (p : X → Bool) (xs ys : List X) → position_or_len p xs < length xs
    → position_or_len p (xs ++ ys) ≡ position_or_len p xs
first-front p [] ys less = absurd (omega arith)
first-front p (x ∷ xs) ys less =
    elim (p x) as (λ b. cond (not b) (1 + position_or_len p xs) 0 < suc (length xs)
    → cond (not b) (1 + position_or_len p (xs ++ ys)) 0 ≡ cond (not b) (1 + position_or_len p xs) 0) [
      | true ↦ λ h. refl
      | false ↦ λ h. ap (λ n. 1 + n) (first-front p xs ys (omega arith))
    ] less

first-back : {X : Type 0} (p : X → Bool) (xs ys : List X) → length xs ≤ position_or_len p xs
    → position_or_len p (xs ++ ys) ≡ length xs + position_or_len p ys
first-back p [] ys le = omega arith
first-back p (x ∷ xs) ys le =
    elim (p x) as (λ b. suc (length xs) ≤ cond (not b) (1 + position_or_len p xs) 0
    → cond (not b) (1 + position_or_len p (xs ++ ys)) 0 ≡ suc (length xs) + position_or_len p ys) [
      | true ↦ λ h. absurd (omega arith)
      | false ↦ λ h. omega (arith, first-back p xs ys (omega arith))
    ] le

owner-front : (xs ys : List TableEntry) (addr : ℕ) → owner_of xs addr < length xs → owner_of (xs ++ ys) addr ≡ owner_of xs addr
owner-front xs ys addr less = first-front (spans addr) xs ys less

owner-back : (xs ys : List TableEntry) (addr : ℕ) → length xs ≤ owner_of xs addr → owner_of (xs ++ ys) addr ≡ length xs + owner_of ys addr
owner-back xs ys addr le = first-back (spans addr) xs ys le

-- whose an address is, of two lists together
owner-front_only : (xs ys : List TableEntry) (addr owner : ℕ) → owner_of (xs ++ ys) addr ≡ owner → owner < length xs → owner_of xs addr ≡ owner
owner-front_only xs ys addr owner is less =
    elim (cases_lt (owner_of xs addr) (length xs)) [
      | inl front ↦ sym (owner-front xs ys addr front) ∙ is
      | inr back ↦ absurd (omega (arith, owner-back xs ys addr back, is))
    ]

owner-back_only : (xs ys : List TableEntry) (addr owner : ℕ) → owner_of (xs ++ ys) addr ≡ owner + length xs
    → (owner_of ys addr ≡ owner) × (length xs ≤ owner_of xs addr)
owner-back_only xs ys addr owner is =
    elim (cases_lt (owner_of xs addr) (length xs)) [
      | inl front ↦ absurd (omega (arith, owner-front xs ys addr front, is))
      | inr back ↦ (omega (arith, owner-back xs ys addr back, is), back)
    ]

-- the range whose a piece is
pub record IsWithin (ranges : List TableEntry) (owner : ℕ) (piece range : TableEntry) : Type 0 where
  pub is : slice_get ranges owner ≡ Some range
  pub starts : range.start ≤ piece.start
  pub ends : piece.start + piece.len ≤ range.start + range.len
  pub found : piece.offset ≡ found_by piece.start range

pub owner_spans : (ranges : List TableEntry) (addr owner : ℕ) (d : TableEntry) → owner_of ranges addr ≡ owner → owner < length ranges
    → spans addr (get_or ranges owner d) ≡ true
owner_spans ranges addr owner d is less =
    subst (λ i. spans addr (get_or ranges i d) ≡ true) is (passes_at_first (spans addr) ranges d (omega (arith, is)))

-- a range that holds an address isn't before the first one that does
pub first_below : (ranges : List TableEntry) (addr owner : ℕ) (d : TableEntry) → spans addr (get_or ranges owner d) ≡ true → owner < length ranges
    → owner_of ranges addr ≤ owner
first_below ranges addr owner d held less =
    elim (cases_lt owner (owner_of ranges addr)) [
      | inl before ↦ let fails = fails_before_first (spans addr) ranges owner d before in absurd (cc)
      | inr le ↦ le
    ]

pub piece_within : (ranges : List TableEntry) (owner : ℕ) (piece d : TableEntry) → IsPieceOf ranges owner piece
    → IsWithin ranges owner piece (get_or ranges owner d)
piece_within ranges owner piece d h =
    let range = get_or ranges owner d in
    let first = h.each piece.start (omega arith) (omega (arith, h.some)) in
    let last = h.each (piece.start + piece.len - 1) (omega (arith, h.some)) (omega (arith, h.some)) in
    let at_first = spans_from piece.start range (owner_spans ranges piece.start owner d first h.owned) in
    let at_last = spans_from (piece.start + piece.len - 1) range (owner_spans ranges (piece.start + piece.len - 1) owner d last h.owned) in
    record {
      is = slice_get-get_or ranges owner d h.owned;
      starts = at_first.0;
      ends = omega (arith, at_last.1, h.some);
      found = same_Some _ _ (sym h.found ∙ ap (option_map (found_by piece.start)) (slice_get-get_or ranges owner d h.owned));
    }

abbrev pub IsPieceAt : List TableEntry → Owned → Type 0
IsPieceAt ranges p = IsPieceOf ranges p.owner p.entry

-- no sum over a piece of ranges passes 2^64 - 1
piece_room : (ranges : List TableEntry) (shift : ℕ) (p : Owned) → All IsBoundedRange ranges → length ranges + shift ≤ 2 ^ 64 → IsPieceAt ranges p → HasPieceRoom shift p
piece_room ranges shift p fits few h =
    let within = piece_within ranges p.owner p.entry p.entry h in
    let range = fits p.owner p.entry h.owned in
    record {
      ends = omega (arith, range.ends, within.ends);
      found_ends = ⊎_elim
          (λ (empty : (get_or ranges p.owner p.entry).len ≡ 0). absurd (omega (arith, h.some, within.ends, within.starts)))
          (λ (ends : (get_or ranges p.owner p.entry).offset + (get_or ranges p.owner p.entry).len ≤ 2 ^ 64 - 1).
          omega (arith, within.ends, within.starts, within.found))
          range.found_ends;
      owner_fits = omega (arith, h.owned);
    }

pub pieces_room : (ranges : List TableEntry) (shift : ℕ) (ps : List Owned) → All IsBoundedRange ranges → length ranges + shift ≤ 2 ^ 64
    → AllByRecursion (IsPieceAt ranges) ps → HaveRoom shift ps
pieces_room ranges shift [] fits few h = tt
pieces_room ranges shift (p ∷ ps) fits few h = (piece_room ranges shift p fits few h.0, pieces_room ranges shift ps fits few h.1)

-- the range of a number, of two lists together
at-front : {X : Type 0} (xs ys : List X) (k : ℕ) → k < length xs → slice_get (xs ++ ys) k ≡ slice_get xs k
at-front [] ys k less = absurd (omega arith)
at-front (x ∷ xs) ys zero less = refl
at-front (x ∷ xs) ys (suc k) less = at-front xs ys k (omega arith)

at-back : {X : Type 0} (xs ys : List X) (k : ℕ) → k < length ys → slice_get (xs ++ ys) (k + length xs) ≡ slice_get ys k
at-back [] ys k less = let same : k + 0 ≡ k = omega arith in ap (slice_get ys) same
at-back (x ∷ xs) ys k less =
    let same : k + suc (length xs) ≡ suc (k + length xs) = omega arith in
    ap (slice_get (x ∷ (xs ++ ys))) same ∙ at-back xs ys k less

-- a piece of the first ranges is one of all
piece-front : (xs ys : List TableEntry) (owner : ℕ) (piece : TableEntry) → IsPieceOf xs owner piece → IsPieceOf (xs ++ ys) owner piece
piece-front xs ys owner piece h = record {
  owned = omega (arith, h.owned, length-append xs ys);
  some = h.some;
  each = λ addr le less.
      let is = h.each addr le less in
      owner-front xs ys addr (omega (arith, is, h.owned)) ∙ is;
  begins = ⊎_elim (λ zero. inl zero) (λ other. inr (λ is. other (owner-front_only xs ys (piece.start - 1) owner is h.owned))) h.begins;
  ends = λ is. h.ends (owner-front_only xs ys (piece.start + piece.len) owner is h.owned);
  found = ap (option_map (found_by piece.start)) (at-front xs ys owner h.owned) ∙ h.found;
}

-- addresses between the pieces of some ranges
record IsGap (xs : List TableEntry) (low high : ℕ) : Type 0 where
  free : (addr : ℕ) → low ≤ addr → addr < high → length xs ≤ owner_of xs addr
  after : (low ≡ 0) ⊎ (owner_of xs (low - 1) < length xs)
  before : (high ≡ 2 ^ 64 - 1) ⊎ (owner_of xs high < length xs)

-- the part of a piece in a gap
record IsPart (low high shift : ℕ) (p q : Owned) : Type 0 where
  some : max p.entry.start low < min (piece_end p) high
  starts : q.entry.start ≡ max p.entry.start low
  ends : piece_end q ≡ min (piece_end p) high
  found : q.entry.offset ≡ found_by q.entry.start p.entry
  owner : q.owner ≡ p.owner + shift

part_is : (low high shift : ℕ) (p q : Owned) → part_between low high shift p ≡ Some q → IsPart low high shift p q
unfolding part_between
part_is low high shift p q is =
    go (leb (min (piece_end p) high) (max p.entry.start low)) refl is
  where
    start : ℕ
    start = max p.entry.start low

    part : Owned
    part = record {
      entry = record { start = max p.entry.start low; len = min (piece_end p) high - max p.entry.start low; offset = found_by (max p.entry.start low) p.entry };
      owner = p.owner + shift;
    }

    go : (b : Bool) → leb (min (piece_end p) high) (max p.entry.start low) ≡ b → cond b None (Some part) ≡ Some q → IsPart low high shift p q
    go true e h = absurd (cc)
    go false e h =
        let same : part ≡ q = same_Some _ _ h in
        let less = leb-false (min (piece_end p) high) (max p.entry.start low) e in
        subst (IsPart low high shift p) same (record { some = less; starts = refl; ends = omega arith; found = refl; owner = refl })

part-none : (low high shift : ℕ) (p : Owned) → part_between low high shift p ≡ None → min (piece_end p) high ≤ max p.entry.start low
unfolding part_between
part-none low high shift p is =
    go (leb (min (piece_end p) high) (max p.entry.start low)) refl _ is
  where
    go : (b : Bool) → leb (min (piece_end p) high) (max p.entry.start low) ≡ b → (part : Owned) → cond b None (Some part) ≡ None
        → min (piece_end p) high ≤ max p.entry.start low
    go true e part h = leb-true _ _ e
    go false e part h = absurd (cc)

-- the part that a piece of the other ranges has in a gap is one of all
part_piece : (xs ys : List TableEntry) (low high : ℕ) (p q : Owned) → IsGap xs low high → piece_end p ≤ 2 ^ 64 - 1 → IsPieceAt ys p
    → part_between low high (length xs) p ≡ Some q → IsPieceAt (xs ++ ys) q
part_piece xs ys low high p q gap ends h is =
    let n = length xs in
    let part = part_is low high n p q is in
    let whose = λ (addr : ℕ) (le : q.entry.start ≤ addr) (less : addr < piece_end q).
    let is : owner_of ys addr ≡ p.owner = h.each addr (omega (arith, part.starts)) (omega (arith, part.ends)) in
    let free : n ≤ owner_of xs addr = gap.free addr (omega (arith, part.starts)) (omega (arith, part.ends)) in
    let both : owner_of (xs ++ ys) addr ≡ q.owner = omega (arith, owner-back xs ys addr free, is, part.owner) in
    both in
    let only = λ (addr : ℕ) (is : owner_of (xs ++ ys) addr ≡ q.owner). owner-back_only xs ys addr p.owner (is ∙ part.owner) in
    let some : 0 < q.entry.len = omega (arith, part.some, part.starts, part.ends) in
    record {
      owned = omega (arith, h.owned, part.owner, length-append xs ys);
      some = some;
      each = whose;
      begins = elim (cases_lt p.entry.start low) [
        | inl before ↦
            let at : q.entry.start ≡ low = omega (arith, part.starts) in
            ⊎_elim (λ (zero : low ≡ 0). absurd (omega arith))
            (λ (taken : owner_of xs (low - 1) < n). inr (λ is.
            let free = (only (q.entry.start - 1) is).1 in
            let taken' : owner_of xs (q.entry.start - 1) < n = subst (λ a. owner_of xs (a - 1) < n) (sym at) taken in
            absurd (omega arith)))
            gap.after
        | inr from ↦
            let at : q.entry.start ≡ p.entry.start = omega (arith, part.starts) in
            ⊎_elim (λ (zero : p.entry.start ≡ 0). inl (at ∙ zero))
            (λ other. inr (λ is. other (subst (λ a. owner_of ys (a - 1) ≡ p.owner) at (only (q.entry.start - 1) is).0)))
            h.begins
      ];
      ends = λ is. elim (cases_lt high (piece_end p)) [
        | inl past ↦
            let at : piece_end q ≡ high = omega (arith, part.ends) in
            ⊎_elim (λ (last : high ≡ 2 ^ 64 - 1). absurd (omega arith))
            (λ (taken : owner_of xs high < n).
            let free = (only (piece_end q) is).1 in
            let taken' : owner_of xs (piece_end q) < n = subst (λ a. owner_of xs a < n) (sym at) taken in
            absurd (omega arith))
            gap.before
        | inr within ↦
            let at : piece_end q ≡ piece_end p = omega (arith, part.ends) in
            h.ends (subst (λ a. owner_of ys a ≡ p.owner) at (only (piece_end q) is).0)
      ];
      found =
          let within = piece_within ys p.owner p.entry p.entry h in
          let range = get_or ys p.owner p.entry in
          let same : found_by q.entry.start range ≡ q.entry.offset =
          omega (arith, part.found, part.starts, within.starts, within.found) in
          ap (option_map (found_by q.entry.start)) (ap (slice_get (xs ++ ys)) part.owner ∙ at-back xs ys p.owner h.owned ∙ within.is)
          ∙ ap (λ n. Some n) same;
    }

parts_pieces : (xs ys : List TableEntry) (low high : ℕ) (ps : List Owned) → IsGap xs low high → HaveRoom 0 ps → AllByRecursion (IsPieceAt ys) ps
    → AllByRecursion (IsPieceAt (xs ++ ys)) (parts_between low high (length xs) ps)
parts_pieces xs ys low high [] gap room h = tt
parts_pieces xs ys low high (p ∷ ps) gap room h =
    go (parts_pieces xs ys low high ps gap room.1 h.1) (part_between low high (length xs) p) refl
  where
    go : AllByRecursion (IsPieceAt (xs ++ ys)) (parts_between low high (length xs) ps) → (o : Option Owned)
        → part_between low high (length xs) p ≡ o
        → AllByRecursion (IsPieceAt (xs ++ ys)) (cons_option o (parts_between low high (length xs) ps))
    go rest None e = rest
    go rest (Some q) e = (part_piece xs ys low high p q gap room.0.ends h.0 e, rest)

All-joined : (P : Owned → Type 0) (ps qs : List Owned) → AllByRecursion P ps → AllByRecursion P qs → AllByRecursion P (ps ++ qs)
All-joined P [] qs h k = k
All-joined P (p ∷ ps) qs h k = (h.0, All-joined P ps qs h.1 k)

any_above : (low addr : ℕ) (ps : List Owned) → Rises low ps → AnyHolds addr ps → low ≤ addr
any_above low addr [] rise any = absurd any
any_above low addr (p ∷ ps) rise any = ⊎_elim (λ here. omega (arith, rise.0, here.0)) (λ further. omega (arith, rise.0, any_above (piece_end p) addr ps rise.1 further)) any

any_below : (addr : ℕ) (ps : List Owned) → HaveRoom 0 ps → AnyHolds addr ps → addr < 2 ^ 64 - 1
any_below addr [] room any = absurd any
any_below addr (p ∷ ps) room any = ⊎_elim (λ here. omega (arith, room.0.ends, here.1)) (λ further. any_below addr ps room.1 further) any

-- what is left of the first ranges' pieces from an address on
record IsRest (xs : List TableEntry) (low : ℕ) (over : List Owned) : Type 0 where
  rest : (addr : ℕ) → low ≤ addr → owner_of xs addr < length xs → AnyHolds addr over
  after : (low ≡ 0) ⊎ (owner_of xs (low - 1) < length xs)
  each : AllByRecursion (IsPieceAt xs) over
  rise : Rises low over

overlaid_each : (xs ys : List TableEntry) (low : ℕ) (over under : List Owned) → IsRest xs low over → HaveRoom 0 under
    → AllByRecursion (IsPieceAt ys) under → AllByRecursion (IsPieceAt (xs ++ ys)) (overlaid (length xs) low over under)
overlaid_each xs ys low [] under left room h =
    parts_pieces xs ys low (2 ^ 64 - 1) under (record {
      free = λ addr le less. elim (cases_lt (owner_of xs addr) (length xs)) [ inl taken ↦ absurd (left.rest addr le taken) | inr free ↦ free ];
      after = left.after;
      before = inl refl;
    }) room h
overlaid_each xs ys low (top ∷ over) under left room h =
    let piece = left.each.0 in
    let start = top.entry.start in
    let gap : IsGap xs low start = record {
      free = λ addr le less. elim (cases_lt (owner_of xs addr) (length xs)) [
        | inl taken ↦ absurd (omega (arith, any_above start addr (top ∷ over) (omega arith, left.rise.1) (left.rest addr le taken)))
        | inr free ↦ free
      ];
      after = left.after;
      before = inr (omega (arith, piece.each start (omega arith) (omega (arith, piece.some)), piece.owned));
    } in
    let last : owner_of xs (piece_end top - 1) ≡ top.owner = piece.each (piece_end top - 1) (omega (arith, piece.some)) (omega (arith, piece.some)) in
    let next : IsRest xs (piece_end top) over = record {
      rest = λ addr le taken. ⊎_elim (λ here. absurd (omega (arith, here.1))) (λ further. further) (left.rest addr (omega (arith, left.rise.0)) taken);
      after = inr (omega (arith, last, piece.owned));
      each = left.each.1;
      rise = left.rise.1;
    } in
    All-joined (IsPieceAt (xs ++ ys)) (parts_between low start (length xs) under) (top ∷ overlaid (length xs) (piece_end top) over under)
    (parts_pieces xs ys low start under gap room h)
    (piece-front xs ys top.owner top.entry piece, overlaid_each xs ys (piece_end top) over under next room h)

-- what is laid over each other ascends
Rises-lower : (low high : ℕ) (ps : List Owned) → low ≤ high → Rises high ps → Rises low ps
Rises-lower low high [] le rise = tt
Rises-lower low high (p ∷ ps) le rise = (omega (arith, rise.0), rise.1)

Rises-joined : (low high : ℕ) (ps qs : List Owned) → Rises low ps → AllByRecursion (λ p. piece_end p ≤ high) ps → low ≤ high → Rises high qs
    → Rises low (ps ++ qs)
Rises-joined low high [] qs h ends le k = Rises-lower low high qs le k
Rises-joined low high (p ∷ ps) qs h ends le k = (h.0, Rises-joined (piece_end p) high ps qs h.1 ends.1 ends.0 k)

parts_rise : (low high shift from least : ℕ) (ps : List Owned) → Rises from ps → (least ≤ low) ⊎ (least ≤ from)
    → Rises least (parts_between low high shift ps)
parts_rise low high shift from least [] rise le = tt
parts_rise low high shift from least (p ∷ ps) rise le =
    go (λ m l. parts_rise low high shift (piece_end p) m ps rise.1 l) (part_between low high shift p) refl
  where
    go : ((m : ℕ) → (m ≤ low) ⊎ (m ≤ piece_end p) → Rises m (parts_between low high shift ps)) → (o : Option Owned)
        → part_between low high shift p ≡ o → Rises least (cons_option o (parts_between low high shift ps))
    go rest None e = rest least (⊎_elim (λ l. inl l) (λ l. inr (omega (arith, rise.0))) le)
    go rest (Some q) e =
        let part = part_is low high shift p q e in (
          ⊎_elim (λ l. omega (arith, part.starts)) (λ l. omega (arith, part.starts, rise.0)) le,
          rest (piece_end q) (inr (omega (arith, part.ends))),
        )

parts_end : (low high shift : ℕ) (ps : List Owned) → AllByRecursion (λ p. piece_end p ≤ high) (parts_between low high shift ps)
parts_end low high shift [] = tt
parts_end low high shift (p ∷ ps) =
    go (parts_end low high shift ps) (part_between low high shift p) refl
  where
    go : AllByRecursion (λ p. piece_end p ≤ high) (parts_between low high shift ps) → (o : Option Owned) → part_between low high shift p ≡ o
        → AllByRecursion (λ p. piece_end p ≤ high) (cons_option o (parts_between low high shift ps))
    go rest None e = rest
    go rest (Some q) e = (omega (arith, (part_is low high shift p q e).ends), rest)

overlaid_rises : (shift low : ℕ) (over under : List Owned) → Rises low over → Rises 0 under → Rises low (overlaid shift low over under)
overlaid_rises shift low [] under rise k = parts_rise low (2 ^ 64 - 1) shift 0 low under k (inl (omega arith))
overlaid_rises shift low (top ∷ over) under rise k =
    Rises-joined low top.entry.start (parts_between low top.entry.start shift under) (top ∷ overlaid shift (piece_end top) over under)
    (parts_rise low top.entry.start shift 0 low under k (inl (omega arith))) (parts_end low top.entry.start shift under) rise.0
    (omega arith, overlaid_rises shift (piece_end top) over under rise.1 k)

-- and no address is lost
any_left : (addr : ℕ) (ps qs : List Owned) → AnyHolds addr ps → AnyHolds addr (ps ++ qs)
any_left addr [] qs any = absurd any
any_left addr (p ∷ ps) qs any = ⊎_elim (λ here. inl here) (λ further. inr (any_left addr ps qs further)) any

any_right : (addr : ℕ) (ps qs : List Owned) → AnyHolds addr qs → AnyHolds addr (ps ++ qs)
any_right addr [] qs any = any
any_right addr (p ∷ ps) qs any = inr (any_right addr ps qs any)

parts_hold : (addr low high shift : ℕ) (ps : List Owned) → low ≤ addr → addr < high → AnyHolds addr ps → AnyHolds addr (parts_between low high shift ps)
parts_hold addr low high shift [] le less any = absurd any
parts_hold addr low high shift (p ∷ ps) le less any =
    go (parts_hold addr low high shift ps le less) (part_between low high shift p) refl any
  where
    go : (AnyHolds addr ps → AnyHolds addr (parts_between low high shift ps)) → (o : Option Owned) → part_between low high shift p ≡ o
        → Holds addr p ⊎ AnyHolds addr ps → AnyHolds addr (cons_option o (parts_between low high shift ps))
    go rest None e (inl here) = absurd (omega (arith, here.0, here.1, part-none low high shift p e))
    go rest None e (inr further) = rest further
    go rest (Some q) e (inl here) =
        let part = part_is low high shift p q e in
        inl (omega (arith, here.0, part.starts), omega (arith, here.1, part.ends))
    go rest (Some q) e (inr further) = inr (rest further)

overlaid_holds : (addr shift low : ℕ) (over under : List Owned) → low ≤ addr → Rises low over → HaveRoom 0 under
    → AnyHolds addr over ⊎ AnyHolds addr under → AnyHolds addr (overlaid shift low over under)
overlaid_holds addr shift low [] under le rise room (inl any) = absurd any
overlaid_holds addr shift low [] under le rise room (inr any) =
    parts_hold addr low (2 ^ 64 - 1) shift under le (any_below addr under room any) any
overlaid_holds addr shift low (top ∷ over) under le rise room any =
    go (λ past any. overlaid_holds addr shift (piece_end top) over under past rise.1 room any) (cases_lt addr top.entry.start)
    (cases_lt addr (piece_end top)) any
  where
    parts : List Owned
    parts = parts_between low top.entry.start shift under

    rest : List Owned
    rest = top ∷ overlaid shift (piece_end top) over under

    go : (piece_end top ≤ addr → AnyHolds addr over ⊎ AnyHolds addr under → AnyHolds addr (overlaid shift (piece_end top) over under))
        → (addr < top.entry.start) ⊎ (top.entry.start ≤ addr) → (addr < piece_end top) ⊎ (piece_end top ≤ addr)
        → AnyHolds addr (top ∷ over) ⊎ AnyHolds addr under → AnyHolds addr (parts ++ rest)
    go more (inl before) c (inl any) = absurd (omega (arith, any_above top.entry.start addr (top ∷ over) (omega arith, rise.1) any))
    go more (inl before) c (inr any) = any_left addr parts rest (parts_hold addr low top.entry.start shift under le before any)
    go more (inr from) (inl within) any = any_right addr parts rest (inl (from, within))
    go more (inr from) (inr past) (inl (inl here)) = absurd (omega (arith, here.1))
    go more (inr from) (inr past) (inl (inr further)) = any_right addr parts rest (inr (more past (inl further)))
    go more (inr from) (inr past) (inr any) = any_right addr parts rest (inr (more past (inr any)))

-- the pieces of some ranges, laid over those of others, are those of all
pub AreLaid-joined : (xs ys : List TableEntry) (over under : List Owned) → All IsBoundedRange ys → length ys ≤ 2 ^ 64 → AreLaid xs over → AreLaid ys under
    → AreLaid (xs ++ ys) (overlaid (length xs) 0 over under)
AreLaid-joined xs ys over under fits few one other =
    let room = pieces_room ys 0 under fits (omega arith) other.each in
    record {
      each = overlaid_each xs ys 0 over under (record { rest = λ addr le taken. one.whole addr taken; after = inl refl; each = one.each; rise = one.rise }) room other.each;
      rise = overlaid_rises (length xs) 0 over under one.rise other.rise;
      whole = λ addr less. elim (cases_lt (owner_of xs addr) (length xs)) [
        | inl front ↦ overlaid_holds addr (length xs) 0 over under (omega arith) one.rise room (inl (one.whole addr front))
        | inr back ↦ overlaid_holds addr (length xs) 0 over under (omega arith) one.rise room
            (inr (other.whole addr (omega (arith, owner-back xs ys addr back, length-append xs ys))))
      ];
    }

pub split_whole : (n : ℕ) (ranges front back : List TableEntry) → front ≡ take n ranges → back ≡ drop n ranges → front ++ back ≡ ranges
split_whole n ranges front back h k = ap (λ ps. ps ++ back) h ∙ ap (λ ps. take n ranges ++ ps) k ∙ take-append-drop n ranges
