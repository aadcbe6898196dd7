-- Ranges have one list of pieces: how many there are is told by the ranges alone.
use Rattle.std.proofs.Common.{◌≡◌, ℕ, zero, suc, ◌+◌, ◌<◌, ◌≤◌, true, false, List, [], ◌∷◌, length, get_or, refl, sym}
use Rattle.std.proofs.Common.{ap, subst, ◌∙◌, arith, inl, inr, ◌||◌}
use Rattle.std.specs.Prelude.{All}
use Rattle.std.specs.List.{AllPairs, list_any}
use Rattle.std.proofs.lemmas.Bool.{cases_lt}
use Rattle.std.proofs.lemmas.Bool.Decides.{nat_tests}
use Rattle.std.proofs.lemmas.List.Elements.{All-head, All-tail}
use Rattle.elf64_core.specs.SpanTables.{StandsBefore}
use Rattle.elf64_core.specs.declared.span_table.TableEntry.{TableEntry}
use Rattle.piece_table.specs.Overlays.{ArePieces, IsPiece, IsPieceOf, owner_of, spans}
use Rattle.piece_table.proofs.Boundaries.{tail_after, tail_ascends}

-- an entry starts at an address or after it
abbrev StartsFrom : ℕ → TableEntry → Type 0
StartsFrom low e = low ≤ e.start

-- the pieces of ranges from an address on
record Covers (ranges : List TableEntry) (low : ℕ) (pieces : List TableEntry) : Type 0 where
  pub each : All (IsPiece ranges) pieces
  pub ascend : AllPairs StandsBefore pieces
  pub from : All (StartsFrom low) pieces
  pub whole : (addr : ℕ) → low ≤ addr → owner_of ranges addr < length ranges → list_any (spans addr) pieces ≡ true

-- an address that one of some entries holds isn't before all of them
held_from : (low addr : ℕ) (es : List TableEntry) → All (StartsFrom low) es → list_any (spans addr) es ≡ true
    → low ≤ addr
held_from low addr [] from h = absurd (cc)
held_from low addr (e ∷ es) from h =
    let here : low ≤ e.start = All-head (StartsFrom low) e es from in
    elim (cases_lt addr low) [
      | inl less ↦
          let no : spans addr e ≡ false = before e (omega arith) in
          held_from low addr es (All-tail (StartsFrom low) e es from)
          (sym (ap (λ b. b || list_any (spans addr) es) no) ∙ h)
      | inr le ↦ le
    ]
  where
    before : (r : TableEntry) → addr < r.start → spans addr r ≡ false
    before r less = grind (arith, nat_tests)

-- the first one starts before each address that is a range's, or there
first_before : (ranges : List TableEntry) (low addr : ℕ) (e : TableEntry) (es : List TableEntry)
    → Covers ranges low (e ∷ es) → low ≤ addr → owner_of ranges addr < length ranges → e.start ≤ addr
first_before ranges low addr e es c le owned =
    held_from e.start addr (e ∷ es) starts (c.whole addr le owned)
  where
    starts : (k : ℕ) (d : TableEntry) → k < length (e ∷ es) → e.start ≤ (get_or (e ∷ es) k d).start
    starts zero d less = omega arith
    starts (suc k) d less = omega (arith, tail_after e es c.ascend k d (omega arith))

-- of two pieces of one range that start at one address neither ends before the other
not_shorter : (ranges : List TableEntry) (owner : ℕ) (p q : TableEntry) → IsPieceOf ranges owner p
    → IsPieceOf ranges owner q → p.start ≡ q.start → q.len ≤ p.len
not_shorter ranges owner p q hp hq same =
    elim (cases_lt p.len q.len) [
      | inl less ↦ absurd (hp.ends (hq.each (p.start + p.len) (omega arith) (omega arith)))
      | inr le ↦ le
    ]

starts_owned : (ranges : List TableEntry) (p : TableEntry) (h : IsPiece ranges p) → owner_of ranges p.start ≡ h.0
starts_owned ranges p h = h.1.each p.start (omega arith) (omega (arith, h.1.some))

-- two lists of pieces from one address on begin with the same addresses
same_head : (ranges : List TableEntry) (low : ℕ) (p q : TableEntry) (ps qs : List TableEntry)
    → Covers ranges low (p ∷ ps) → Covers ranges low (q ∷ qs) → p.start + p.len ≡ q.start + q.len
same_head ranges low p q ps qs a b =
    let hp : IsPiece ranges p = All-head (IsPiece ranges) p ps a.each in
    let hq : IsPiece ranges q = All-head (IsPiece ranges) q qs b.each in
    let op = starts_owned ranges p hp in
    let oq = starts_owned ranges q hq in
    let before = first_before ranges low p.start q qs b (All-head (StartsFrom low) p ps a.from)
    (omega (arith, op, hp.1.owned)) in
    let after = first_before ranges low q.start p ps a (All-head (StartsFrom low) q qs b.from)
    (omega (arith, oq, hq.1.owned)) in
    let same : p.start ≡ q.start = omega (arith, before, after) in
    let owner : hq.0 ≡ hp.0 = sym oq ∙ ap (owner_of ranges) (sym same) ∙ op in
    let hq' = subst (λ o. IsPieceOf ranges o q) owner hq.1 in
    omega (arith, same, not_shorter ranges hp.0 p q hp.1 hq' same, not_shorter ranges hp.0 q p hq' hp.1 (sym same))

-- those after the first one
rest : (ranges : List TableEntry) (low : ℕ) (p : TableEntry) (ps : List TableEntry) → Covers ranges low (p ∷ ps)
    → Covers ranges (p.start + p.len) ps
rest ranges low p ps a = record {
  each = All-tail (IsPiece ranges) p ps a.each;
  ascend = tail_ascends p ps a.ascend;
  from = tail_after p ps a.ascend;
  whole = λ addr le owned.
      let from : low ≤ p.start = All-head (StartsFrom low) p ps a.from in
      sym (ap (λ b. b || list_any (spans addr) ps) (past p addr le)) ∙ a.whole addr (omega (arith, from)) owned;
}
  where
    past : (r : TableEntry) (addr : ℕ) → r.start + r.len ≤ addr → spans addr r ≡ false
    past r addr le = grind (arith, nat_tests)

-- where there is a piece some address is a range's
not_empty : (ranges : List TableEntry) (low : ℕ) (p : TableEntry) (ps : List TableEntry) → Covers ranges low (p ∷ ps)
    → Covers ranges low [] → ⊥
not_empty ranges low p ps a b =
    let h : IsPiece ranges p = All-head (IsPiece ranges) p ps a.each in
    let found : false ≡ true =
    b.whole p.start (All-head (StartsFrom low) p ps a.from) (omega (arith, starts_owned ranges p h, h.1.owned)) in
    absurd (cc)

as_many : (ranges : List TableEntry) (low : ℕ) (ps qs : List TableEntry) → Covers ranges low ps → Covers ranges low qs
    → length ps ≡ length qs
as_many ranges low [] [] a b = refl
as_many ranges low [] (q ∷ qs) a b = absurd (not_empty ranges low q qs b a)
as_many ranges low (p ∷ ps) [] a b = absurd (not_empty ranges low p ps a b)
as_many ranges low (p ∷ ps) (q ∷ qs) a b =
    let further = subst (λ n. Covers ranges n qs) (sym (same_head ranges low p q ps qs a b)) (rest ranges low q qs b) in
    ap suc (as_many ranges (p.start + p.len) ps qs (rest ranges low p ps a) further)

-- two lists of the pieces of some ranges
pub pieces_as_many : (ranges ps qs : List TableEntry) → ArePieces ranges ps → ArePieces ranges qs
    → length ps ≡ length qs
pieces_as_many ranges ps qs a b = as_many ranges 0 ps qs (all ps a) (all qs b)
  where
    all : (es : List TableEntry) → ArePieces ranges es → Covers ranges 0 es
    all es h = record {
      each = h.each;
      ascend = h.ascend;
      from = λ k d less. omega arith;
      whole = λ addr le owned. h.whole addr owned;
    }
