-- How many pieces ranges have: each starts where a range starts or ends, so there are at most twice as many.
use Rattle.std.proofs.Common.{◌≡◌, ◌≢◌, ◌⊎◌, ℕ, zero, suc, ◌+◌, ◌-◌, ◌*◌, ◌<◌, ◌≤◌, ◌^◌, leb, Bool, true, false, cond}
use Rattle.std.proofs.Common.{List, [], ◌∷◌, ◌++◌, length, get_or, map, refl, ap, subst, arith, inl, inr, ⊎_elim}
use Rattle.std.proofs.Common.{length-append, ◌||◌}
use Rattle.std.specs.Prelude.{All}
use Rattle.std.specs.List.{AllByRecursion, AllPairs, list_any}
use Rattle.std.proofs.lemmas.Bool.{cases_lt, cases_eq, le-leb, lt-leb}
use Rattle.std.proofs.lemmas.List.{length-map}
use Rattle.std.proofs.lemmas.List.Sums.{fails_before_first}
use Rattle.std.proofs.lemmas.List.Elements.{All-from_recursion, All-head, All-map, All-tail, All-weaker}
use Rattle.elf64_core.specs.SpanTables.{AreSpans, IsSpan, StandsBefore}
use Rattle.elf64_core.specs.declared.span_table.TableEntry.{TableEntry}
use Rattle.piece_table.specs.declared.overlay.Owned.{Owned}
use Rattle.piece_table.specs.Overlays.{ArePieces, IsPiece, IsPieceOf, IsBoundedRange, owner_of, spans}
use Rattle.piece_table.specs.Laid.{AnyHolds, AreLaid, HaveRoom, Holds, Rises, piece_end, table_entry_of}
use Rattle.piece_table.proofs.Overlays.{IsPieceAt, first_below, owner_spans, pieces_room, piece_within, spans_from}
use Rattle.piece_table.proofs.Overlays.{spans_within}

abbrev IsIn : ℕ → List ℕ → Type 0
IsIn x [] = ⊥
IsIn x (y ∷ ys) = (y ≡ x) ⊎ IsIn x ys

-- how many of some numbers are at least so much
abbrev from_on : ℕ → List ℕ → ℕ
from_on low [] = 0
from_on low (x ∷ xs) = cond (leb low x) 1 0 + from_on low xs

from_on-all : (low : ℕ) (xs : List ℕ) → from_on low xs ≤ length xs
from_on-all low [] = omega arith
from_on-all low (x ∷ xs) =
    elim (leb low x) as (λ b. cond b 1 0 + from_on low xs ≤ suc (length xs)) [
      | true ↦ omega (arith, from_on-all low xs)
      | false ↦ omega (arith, from_on-all low xs)
    ]

from_on-fewer : (low high : ℕ) (xs : List ℕ) → low ≤ high → from_on high xs ≤ from_on low xs
from_on-fewer low high [] le = omega arith
from_on-fewer low high (x ∷ xs) le =
    elim (cases_lt x high) [
      | inl less ↦ let no : leb high x ≡ false = lt-leb high x less in rw no (omega (arith, from_on-fewer low high xs le))
      | inr over ↦
          let yes : leb high x ≡ true = le-leb high x over in
          let also : leb low x ≡ true = le-leb low x (omega arith) in
          rw (yes, also) (omega (arith, from_on-fewer low high xs le))
    ]

from_on-one_fewer : (low high x : ℕ) (xs : List ℕ) → low ≤ x → x < high → IsIn x xs → suc (from_on high xs) ≤ from_on low xs
from_on-one_fewer low high x [] le less is = absurd is
from_on-one_fewer low high x (y ∷ ys) le less is =
    ⊎_elim
    (λ (here : y ≡ x).
    let no : leb high y ≡ false = lt-leb high y (omega arith) in
    let yes : leb low y ≡ true = le-leb low y (omega arith) in
    rw (no, yes) (omega (arith, from_on-fewer low high ys (omega arith))))
    (λ (further : IsIn x ys).
    let rest = from_on-one_fewer low high x ys le less further in
    elim (cases_lt y high) [
      | inl below ↦ let no : leb high y ≡ false = lt-leb high y below in rw no (omega (arith, rest))
      | inr over ↦
          let yes : leb high y ≡ true = le-leb high y over in
          let also : leb low y ≡ true = le-leb low y (omega arith) in
          rw (yes, also) (omega (arith, rest))
    ])
    is

abbrev start_of : TableEntry → ℕ
start_of r = r.start

abbrev end : TableEntry → ℕ
end r = r.start + r.len

abbrev StartsIn : List ℕ → TableEntry → Type 0
StartsIn xs e = (0 < e.len) × IsIn e.start xs

pub tail_ascends : (e : TableEntry) (es : List TableEntry) → AllPairs StandsBefore (e ∷ es) → AllPairs StandsBefore es
tail_ascends e es h = λ i j d ij less. h (suc i) (suc j) d (omega arith) (omega arith)

pub tail_after : (e : TableEntry) (es : List TableEntry) → AllPairs StandsBefore (e ∷ es)
    → All (λ next. e.start + e.len ≤ next.start) es
tail_after e es h = λ k d less. h 0 (suc k) d (omega arith) (omega arith)

-- entries that ascend, each of which starts at one of some numbers
fewer : (low : ℕ) (es : List TableEntry) (xs : List ℕ) → AllPairs StandsBefore es → All (λ e. low ≤ e.start) es → All (StartsIn xs) es
    → length es ≤ from_on low xs
fewer low [] xs ascend after h = omega arith
fewer low (e ∷ es) xs ascend after h =
    let here : StartsIn xs e = All-head (StartsIn xs) e es h in
    let from : low ≤ e.start = All-head (λ x. low ≤ x.start) e es after in
    omega (
      arith,
      fewer (end e) es xs (tail_ascends e es ascend) (tail_after e es ascend) (All-tail (StartsIn xs) e es h),
      from_on-one_fewer low (end e) e.start xs from (omega (arith, here.0)) here.1,
    )

-- where ranges start and end
abbrev boundaries : List TableEntry → List ℕ
boundaries ranges = map start_of ranges ++ map end ranges

IsIn-left : (x : ℕ) (xs ys : List ℕ) → IsIn x xs → IsIn x (xs ++ ys)
IsIn-left x [] ys h = absurd h
IsIn-left x (z ∷ xs) ys h = ⊎_elim (λ here. inl here) (λ further. inr (IsIn-left x xs ys further)) h

IsIn-right : (x : ℕ) (xs ys : List ℕ) → IsIn x ys → IsIn x (xs ++ ys)
IsIn-right x [] ys h = h
IsIn-right x (z ∷ xs) ys h = inr (IsIn-right x xs ys h)

IsIn-map : (f : TableEntry → ℕ) (rs : List TableEntry) (k : ℕ) (d : TableEntry) → k < length rs → IsIn (f (get_or rs k d)) (map f rs)
IsIn-map f [] k d less = absurd (omega arith)
IsIn-map f (r ∷ rs) zero d less = inl refl
IsIn-map f (r ∷ rs) (suc k) d less = inr (IsIn-map f rs k d (omega arith))

starts_at : (ranges : List TableEntry) (x k : ℕ) (d : TableEntry) → k < length ranges → (get_or ranges k d).start ≡ x → IsIn x (boundaries ranges)
starts_at ranges x k d less is = subst (λ y. IsIn y (boundaries ranges)) is (IsIn-left _ (map start_of ranges) (map end ranges) (IsIn-map start_of ranges k d less))

ends_at : (ranges : List TableEntry) (x k : ℕ) (d : TableEntry) → k < length ranges → end (get_or ranges k d) ≡ x → IsIn x (boundaries ranges)
ends_at ranges x k d less is = subst (λ y. IsIn y (boundaries ranges)) is (IsIn-right _ (map start_of ranges) (map end ranges) (IsIn-map end ranges k d less))

-- a piece starts where its range does, or where one before that ends
piece_starts : (ranges : List TableEntry) (owner : ℕ) (piece : TableEntry) → IsPieceOf ranges owner piece → IsIn piece.start (boundaries ranges)
piece_starts ranges owner piece h =
    let own = get_or ranges owner piece in
    let within = piece_within ranges owner piece piece h in
    ⊎_elim
    (λ (zero : piece.start ≡ 0). starts_at ranges piece.start owner piece h.owned (omega (arith, within.starts)))
    (λ (other : owner_of ranges (piece.start - 1) ≢ owner).
    elim (cases_eq own.start piece.start) [
      | inl same ↦ starts_at ranges piece.start owner piece h.owned same
      | inr differs ↦
          let some : own.start < piece.start = omega (arith, within.starts) in
          let held : spans (piece.start - 1) own ≡ true = spans_within (piece.start - 1) own (omega arith) (omega (arith, within.ends, h.some)) in
          let first : owner_of ranges (piece.start - 1) ≤ owner = first_below ranges (piece.start - 1) owner piece held h.owned in
          let k = owner_of ranges (piece.start - 1) in
          let before : k < owner = omega arith in
          let inside : k < length ranges = omega (arith, h.owned) in
          let last = spans_from (piece.start - 1) (get_or ranges k piece) (owner_spans ranges (piece.start - 1) k piece refl inside) in
          let here = h.each piece.start (omega arith) (omega (arith, h.some)) in
          let past : spans piece.start (get_or ranges k piece) ≡ false = fails_before_first (spans piece.start) ranges k piece (omega arith) in
          ends_at ranges piece.start k piece inside
          (elim (cases_lt piece.start (end (get_or ranges k piece))) [
            | inl less ↦ absurd (differ past (spans_within piece.start (get_or ranges k piece) (omega (arith, last.0)) less))
            | inr le ↦ omega (arith, last.1)
          ])
    ])
    h.begins
  where
    differ : {b : Bool} → b ≡ false → b ≡ true → ⊥
    differ h k = absurd (cc)

piece_starts_in : (ranges : List TableEntry) (piece : TableEntry) → IsPiece ranges piece → StartsIn (boundaries ranges) piece
piece_starts_in ranges piece h = (h.1.some, piece_starts ranges h.0 piece h.1)

-- ranges have at most twice as many pieces
pub pieces_few : (ranges pieces : List TableEntry) → ArePieces ranges pieces → length pieces ≤ 2 * length ranges
pieces_few ranges pieces h =
    omega (
      arith,
      fewer 0 pieces (boundaries ranges) h.ascend (λ k d less. omega arith)
          (All-weaker (IsPiece ranges) (StartsIn (boundaries ranges)) (piece_starts_in ranges) pieces h.each),
      from_on-all 0 (boundaries ranges),
      length-append (map start_of ranges) (map end ranges),
      length-map ranges start_of,
      length-map ranges end,
    )

-- pieces as a table's entries
far : (low : ℕ) (ps : List Owned) (k : ℕ) (d : TableEntry) → Rises low ps → k < length (map table_entry_of ps) → low ≤ (get_or (map table_entry_of ps) k d).start
far low [] k d rise less = absurd (omega arith)
far low (p ∷ ps) zero d rise less = rise.0
far low (p ∷ ps) (suc k) d rise less = omega (arith, rise.0, far (piece_end p) ps k d rise.1 (omega arith))

pub laid_ascend : (low : ℕ) (ps : List Owned) → Rises low ps → AllPairs StandsBefore (map table_entry_of ps)
laid_ascend low [] rise i j d ij less = absurd (omega arith)
laid_ascend low (p ∷ ps) rise i zero d ij less = absurd (omega arith)
laid_ascend low (p ∷ ps) rise zero (suc j) d ij less = far (piece_end p) ps j d rise.1 (omega arith)
laid_ascend low (p ∷ ps) rise (suc i) (suc j) d ij less = laid_ascend (piece_end p) ps rise.1 i j d (omega arith) (omega arith)

laid_any : (addr : ℕ) (ps : List Owned) → AnyHolds addr ps → list_any (spans addr) (map table_entry_of ps) ≡ true
laid_any addr [] any = absurd any
laid_any addr (p ∷ ps) any =
    ⊎_elim
    (λ (here : Holds addr p). ap (λ b. b || list_any (spans addr) (map table_entry_of ps)) (spans_within addr p.entry here.0 here.1))
    (λ (further : AnyHolds addr ps).
    let rest = laid_any addr ps further in
    elim (spans addr p.entry) as (λ b. (b || list_any (spans addr) (map table_entry_of ps)) ≡ true) [ true ↦ refl | false ↦ rest ])
    any

laid_spans : (ranges : List TableEntry) (ps : List Owned) → HaveRoom 0 ps → AllByRecursion (IsPieceAt ranges) ps
    → AllByRecursion (λ p. IsSpan (table_entry_of p)) ps
laid_spans ranges [] room h = tt
laid_spans ranges (p ∷ ps) room h = (record { some = h.0.some; ends = room.0.ends }, laid_spans ranges ps room.1 h.1)

laid_pieces : (ranges : List TableEntry) (ps : List Owned) → AllByRecursion (IsPieceAt ranges) ps
    → AllByRecursion (λ p. IsPiece ranges (table_entry_of p)) ps
laid_pieces ranges [] h = tt
laid_pieces ranges (p ∷ ps) h = ((p.owner, h.0), laid_pieces ranges ps h.1)

pub AreSpans-laid : (ranges : List TableEntry) (ps : List Owned) → All IsBoundedRange ranges → length ranges ≤ 2 ^ 64 → length ps < 2 ^ 32
    → AreLaid ranges ps → AreSpans (map table_entry_of ps)
AreSpans-laid ranges ps fits many few laid = record {
  each = All-map IsSpan table_entry_of ps (All-from_recursion (λ p. IsSpan (table_entry_of p)) ps
      (laid_spans ranges ps (pieces_room ranges 0 ps fits (omega arith) laid.each) laid.each));
  ascend = laid_ascend 0 ps laid.rise;
  few = omega (arith, length-map ps table_entry_of);
}

pub ArePieces-laid : (ranges : List TableEntry) (ps : List Owned) → AreLaid ranges ps → ArePieces ranges (map table_entry_of ps)
ArePieces-laid ranges ps laid = record {
  each = All-map (IsPiece ranges) table_entry_of ps
      (All-from_recursion (λ p. IsPiece ranges (table_entry_of p)) ps (laid_pieces ranges ps laid.each));
  ascend = laid_ascend 0 ps laid.rise;
  whole = λ addr less. laid_any addr ps (laid.whole addr less);
}
