-- The pieces of ranges.
use Rattle.std.proofs.Common.{◌≡◌, ℕ, zero, suc, ◌+◌, ◌-◌, ◌<◌, ◌≤◌, Bool, true, false, leb, ltb, List, [], ◌∷◌, ◌++◌}
use Rattle.std.proofs.Common.{length, get_or, refl, sym, ap, ap₂, ◌∙◌, arith, append_assoc, drop, ◌^◌, subst, inl, inr}
use Rattle.std.proofs.Common.{◌||◌, ◌&&◌}
use Rattle.std.specs.Prelude.{All, IsSome, filter}
use Rattle.std.specs.List.{AllPairs}
use Rattle.std.specs.List.Sorted.{IsNonDecreasingBy, IsPermutation}
use Rattle.std.proofs.lemmas.Bool.{cases_lt}
use Rattle.std.proofs.lemmas.Bool.Decides.{nat_tests}
use Rattle.std.proofs.lemmas.List.{drop_more}
use Rattle.std.proofs.lemmas.List.Elements.{All-cons, All-filter, All-head, All-nil, All-tail, filter_passes}
use Rattle.std.proofs.lemmas.List.Sorted.{All-permutation, list_any-IsPermutation}
use borrow.Author.Tests.{ltb-true}
use Rattle.process_memory.specs.Memory.{Memory}
use Rattle.process_memory.specs.Seen.{HoldsSpan}
use Rattle.process_memory.specs.declared.memory.Span.{Span}
use Rattle.core_slim.specs.Joined.{AreJoined, Ascends, EndsBefore, EndsInTime, both, covers, joined, lies_in}

-- pieces from an address on, none empty, each behind the end of the one before
abbrev pub Rises : ℕ → List Span → Type 0
Rises low [] = Unit {0}
Rises low (p ∷ ps) = (low ≤ p.start) × (0 < p.len) × Rises (p.start + p.len + 1) ps

pub rises_earlier : (low lower : ℕ) (ps : List Span) → lower ≤ low → Rises low ps → Rises lower ps
rises_earlier low lower [] le r = r
rises_earlier low lower (p ∷ ps) le r = (omega (arith, r.0), r.1, r.2)

rises_some : (low : ℕ) (ps : List Span) → Rises low ps → All (λ p. 0 < p.len) ps
rises_some low [] r = All-nil (λ p. 0 < p.len)
rises_some low (p ∷ ps) r = All-cons (λ p. 0 < p.len) p ps r.1 (rises_some (p.start + p.len + 1) ps r.2)

rises_from : (low : ℕ) (ps : List Span) → Rises low ps → (k : ℕ) (d : Span) → k < length ps
    → low ≤ (get_or ps k d).start
rises_from low [] r k d lt = absurd (omega arith)
rises_from low (p ∷ ps) r zero d lt = r.0
rises_from low (p ∷ ps) r (suc k) d lt = omega (arith, r.0, rises_from (p.start + p.len + 1) ps r.2 k d (omega arith))

rises_apart : (low : ℕ) (ps : List Span) → Rises low ps → AllPairs EndsBefore ps
rises_apart low [] r i j d ij lt = absurd (omega arith)
rises_apart low (p ∷ ps) r zero zero d ij lt = absurd (omega arith)
rises_apart low (p ∷ ps) r zero (suc j) d ij lt =
    omega (arith, rises_from (p.start + p.len + 1) ps r.2 j d (omega arith))
rises_apart low (p ∷ ps) r (suc i) zero d ij lt = absurd (omega arith)
rises_apart low (p ∷ ps) r (suc i) (suc j) d ij lt =
    rises_apart (p.start + p.len + 1) ps r.2 i j d (omega arith) (omega arith)

pub apart_rises : (low : ℕ) (ps : List Span) → All (λ p. 0 < p.len) ps → AllPairs EndsBefore ps
    → ((d : Span) → 0 < length ps → low ≤ (get_or ps 0 d).start) → Rises low ps
apart_rises low [] some apart from = tt
apart_rises low (p ∷ ps) some apart from = (
  from p (omega arith),
  All-head (λ p. 0 < p.len) p ps some,
  apart_rises (p.start + p.len + 1) ps (All-tail (λ p. 0 < p.len) p ps some)
      (λ i j d ij lt. apart (suc i) (suc j) d (omega arith) (omega arith))
      (λ d lt. omega (arith, apart 0 1 d (omega arith) (omega arith))),
)

-- ---- addresses

pub covers_before : (a : ℕ) (s : Span) → a < s.start → covers a s ≡ false
covers_before a s lt = let no : leb s.start a ≡ false = grind (arith, nat_tests) in rw no refl

pub covers_behind : (a : ℕ) (s : Span) → s.start + s.len ≤ a → covers a s ≡ false
covers_behind a s le =
    let no : ltb a (s.start + s.len) ≡ false = grind (arith, nat_tests) in
    rw no (elim (leb s.start a) as (λ b. b && false ≡ false) [ true ↦ refl | false ↦ refl ])

pub covers_within : (a : ℕ) (s : Span) → s.start ≤ a → a < s.start + s.len → covers a s ≡ true
covers_within a s le lt =
    let yes : leb s.start a ≡ true = grind (arith, nat_tests) in
    let also : ltb a (s.start + s.len) ≡ true = grind (arith, nat_tests) in
    rw (yes, also) refl

pub lies_before : (low : ℕ) (ps : List Span) (a : ℕ) → Rises low ps → a < low → lies_in ps a ≡ false
lies_before low [] a r lt = refl
lies_before low (p ∷ ps) a r lt =
    rw (covers_before a p (omega (arith, r.0)), lies_before (p.start + p.len + 1) ps a r.2 (omega (arith, r.0))) refl

-- two lists of pieces of the same addresses: where the first begins
begins : (low high : ℕ) (p : Span) (ps : List Span) (qs : List Span) → Rises low (p ∷ ps) → Rises high qs
    → ((a : ℕ) → lies_in (p ∷ ps) a ≡ lies_in qs a) → high ≤ p.start
begins low high p ps qs r s same =
    elim (cases_lt p.start high) [
      | inl lt ↦
          let there : covers p.start p ≡ true = covers_within p.start p (omega arith) (omega (arith, r.1)) in
          let here : lies_in (p ∷ ps) p.start ≡ true = rw there refl in
          let no = lies_before high qs p.start s lt in
          absurd (let e = same p.start in cc)
      | inr le ↦ le
    ]

-- and it doesn't end behind the end of the other
ends : (low high : ℕ) (p q : Span) (ps qs : List Span) → Rises low (p ∷ ps) → Rises high (q ∷ qs)
    → ((a : ℕ) → lies_in (p ∷ ps) a ≡ lies_in (q ∷ qs) a) → p.start ≡ q.start → p.start + p.len ≤ q.start + q.len
ends low high p q ps qs r s same start =
    elim (cases_lt (q.start + q.len) (p.start + p.len)) [
      | inl lt ↦
          let a = q.start + q.len in
          let there : covers a p ≡ true = covers_within a p (omega arith) lt in
          let here : lies_in (p ∷ ps) a ≡ true = rw there refl in
          let none : lies_in (q ∷ qs) a ≡ false =
          rw (covers_behind a q (omega arith), lies_before (q.start + q.len + 1) qs a s.2 (omega arith)) refl in
          absurd (let e = same a in cc)
      | inr le ↦ le
    ]

after : (p : Span) (ps qs : List Span) → Rises (p.start + p.len + 1) ps → Rises (p.start + p.len + 1) qs
    → ((a : ℕ) → lies_in (p ∷ ps) a ≡ lies_in (p ∷ qs) a) → (a : ℕ) → lies_in ps a ≡ lies_in qs a
after p ps qs r s same a =
    elim (cases_lt a (p.start + p.len + 1)) [
      | inl lt ↦ lies_before (p.start + p.len + 1) ps a r lt ∙ sym (lies_before (p.start + p.len + 1) qs a s lt)
      | inr le ↦
          let no : covers a p ≡ false = covers_behind a p (omega arith) in
          let both_sides = same a in
          rw no at both_sides
    ]

once : (low : ℕ) (ps qs : List Span) → Rises low ps → Rises low qs → ((a : ℕ) → lies_in ps a ≡ lies_in qs a) → ps ≡ qs
once low [] [] r s same = refl
once low [] (q ∷ qs) r s same =
    let there : covers q.start q ≡ true = covers_within q.start q (omega arith) (omega (arith, s.1)) in
    let here : lies_in (q ∷ qs) q.start ≡ true = rw there refl in
    absurd (let e = same q.start in cc)
once low (p ∷ ps) [] r s same =
    let there : covers p.start p ≡ true = covers_within p.start p (omega arith) (omega (arith, r.1)) in
    let here : lies_in (p ∷ ps) p.start ≡ true = rw there refl in
    absurd (let e = same p.start in cc)
once low (p ∷ ps) (q ∷ qs) r s same =
    let r' : Rises p.start (p ∷ ps) = (omega arith, r.1, r.2) in
    let s' : Rises q.start (q ∷ qs) = (omega arith, s.1, s.2) in
    let one = begins low q.start p ps (q ∷ qs) r s' same in
    let two = begins low p.start q qs (p ∷ ps) s r' (λ a. sym (same a)) in
    let start : p.start ≡ q.start = omega arith in
    let end1 = ends low low p q ps qs r s same start in
    let end2 = ends low low q p qs ps s r (λ a. sym (same a)) (sym start) in
    let len : p.len ≡ q.len = omega arith in
    let equal : p ≡ q = λ i. record { start = start i; len = len i } in
    let s3 : Rises (p.start + p.len + 1) qs =
    rises_earlier (q.start + q.len + 1) (p.start + p.len + 1) qs (omega arith) s.2 in
    let same' : (a : ℕ) → lies_in (p ∷ ps) a ≡ lies_in (p ∷ qs) a =
    λ a. same a ∙ ap (λ (x : Span). lies_in (x ∷ qs) a) (sym equal) in
    ap₂ (λ x xs. x ∷ xs) equal (once (p.start + p.len + 1) ps qs r.2 s3 (after p ps qs r.2 s3 same'))

pub joined_once : (ranges ps qs : List Span) → AreJoined ranges ps → AreJoined ranges qs → ps ≡ qs
joined_once ranges ps qs one two =
    once 0 ps qs
    (apart_rises 0 ps one.some one.apart (λ d lt. omega arith))
    (apart_rises 0 qs two.some two.apart (λ d lt. omega arith))
    (λ a. one.same a ∙ sym (two.same a))

-- ---- joining

covers_both : (a : ℕ) (s t : Span) → s.start ≤ t.start → t.start ≤ s.start + s.len
    → covers a (both s t) ≡ (covers a s || covers a t)
covers_both a s t le meets = grind (arith, nat_tests)

ascends_earlier : (low lower : ℕ) (ss : List Span) → lower ≤ low → Ascends low ss → Ascends lower ss
ascends_earlier low lower [] le h = h
ascends_earlier low lower (s ∷ ss) le h = (omega (arith, h.0), h.1, h.2)

joined_rises : (last : Span) (ss : List Span) → 0 < last.len → Ascends last.start ss → Rises last.start (joined last ss)
joined_rises last [] some h = (omega arith, some, tt)
joined_rises last (s ∷ ss) some h =
    elim (cases_lt (last.start + last.len) s.start) [
      | inl lt ↦
          let no : leb s.start (last.start + last.len) ≡ false = grind (arith, nat_tests) in
          rw no (
            omega arith,
            some,
            rises_earlier s.start (last.start + last.len + 1) (joined s ss) (omega arith) (joined_rises s ss h.1 h.2),
          )
      | inr le ↦
          let yes : leb s.start (last.start + last.len) ≡ true = grind (arith, nat_tests) in
          rw yes (joined_rises (both last s) ss (omega arith) (ascends_earlier s.start last.start ss h.0 h.2))
    ]

or_assoc : (x y z : Bool) → ((x || y) || z) ≡ (x || (y || z))
or_assoc true y z = refl
or_assoc false y z = refl

joined_same : (last : Span) (ss : List Span) (a : ℕ) → Ascends last.start ss
    → lies_in (joined last ss) a ≡ (covers a last || lies_in ss a)
joined_same last [] a h = refl
joined_same last (s ∷ ss) a h =
    elim (cases_lt (last.start + last.len) s.start) [
      | inl lt ↦
          let no : leb s.start (last.start + last.len) ≡ false = grind (arith, nat_tests) in
          rw (no, joined_same s ss a h.2) refl
      | inr le ↦
          let yes : leb s.start (last.start + last.len) ≡ true = grind (arith, nat_tests) in
          rw (yes, joined_same (both last s) ss a (ascends_earlier s.start last.start ss h.0 h.2))
          (ap (λ b. b || lies_in ss a) (covers_both a last s h.0 le)
          ∙ or_assoc (covers a last) (covers a s) (lies_in ss a))
    ]

pub are_joined : (last : Span) (ss : List Span) → 0 < last.len → Ascends last.start ss
    → AreJoined (last ∷ ss) (joined last ss)
are_joined last ss some h =
    let rises = joined_rises last ss some h in
    record {
      some = rises_some last.start (joined last ss) rises;
      apart = rises_apart last.start (joined last ss) rises;
      same = λ a. joined_same last ss a h;
    }

-- ---- the loop

-- the pieces before a range, and those of it and of the ranges from a number on, are all
pub record IsJoining (first : Span) (others pieces : List Span) (last : Span) (number : ℕ) : Type 0 where
  pub joins : pieces ++ joined last (drop number others) ≡ joined first others
  pub some : 0 < last.len
  pub ascends : Ascends last.start (drop number others)
  pub fits : last.start + last.len ≤ 2 ^ 64 - 1

-- the range of a number, where it begins, and where it ends
pub next_range : (low number : ℕ) (others : List Span) (d : Span) → number < length others
    → Ascends low (drop number others)
    → Ascends low (get_or others number d ∷ drop (number + 1) others)
next_range low number others d lt h = let e = drop_more others number d lt in rw e at h

pub next_fits : (low number : ℕ) (others : List Span) (d : Span) → number < length others
    → Ascends low (drop number others) → All EndsInTime others
    → (get_or others number d).start + (get_or others number d).len ≤ 2 ^ 64 - 1
next_fits low number others d lt h fit = fit number d lt (next_range low number others d lt h).1

pub joins_in : (first : Span) (others pieces : List Span) (last : Span) (number : ℕ) (d : Span) → number < length others
    → IsJoining first others pieces last number → All EndsInTime others
    → (get_or others number d).start ≤ last.start + last.len
    → IsJoining first others pieces (both last (get_or others number d)) (number + 1)
joins_in first others pieces last number d lt is fit le =
    let s = get_or others number d in
    let rest = drop (number + 1) others in
    let h = next_range last.start number others d lt is.ascends in
    let yes : leb s.start (last.start + last.len) ≡ true = grind (arith, nat_tests) in
    let same : joined last (s ∷ rest) ≡ joined (both last s) rest = rw yes refl in
    record {
      joins = ap (λ ps. pieces ++ ps) (sym (ap (joined last) (drop_more others number d lt) ∙ same)) ∙ is.joins;
      some = omega (arith, is.some);
      ascends = ascends_earlier s.start last.start rest h.0 h.2;
      fits = omega (arith, is.fits, h.0, next_fits last.start number others d lt is.ascends fit);
    }

pub joins_apart : (first : Span) (others pieces : List Span) (last : Span) (number : ℕ) (d : Span)
    → number < length others
    → IsJoining first others pieces last number → All EndsInTime others
    → last.start + last.len < (get_or others number d).start
    → IsJoining first others (pieces ++ last ∷ []) (get_or others number d) (number + 1)
joins_apart first others pieces last number d lt is fit less =
    let s = get_or others number d in
    let rest = drop (number + 1) others in
    let h = next_range last.start number others d lt is.ascends in
    let no : leb s.start (last.start + last.len) ≡ false = grind (arith, nat_tests) in
    let same : joined last (s ∷ rest) ≡ last ∷ joined s rest = rw no refl in
    record {
      joins = append_assoc pieces (last ∷ []) (joined s rest)
          ∙ ap (λ ps. pieces ++ ps) (sym (ap (joined last) (drop_more others number d lt) ∙ same)) ∙ is.joins;
      some = h.1;
      ascends = h.2;
      fits = next_fits last.start number others d lt is.ascends fit;
    }

-- ---- the ranges, in the order of their starts

ascending : (low : ℕ) (ss : List Span) → All (λ s. 0 < s.len) ss → IsNonDecreasingBy (λ (s : Span). s.start) ss
    → ((d : Span) → 0 < length ss → low ≤ (get_or ss 0 d).start) → Ascends low ss
ascending low [] some rise from = tt
ascending low (s ∷ ss) some rise from = (
  from s (omega arith),
  All-head (λ s. 0 < s.len) s ss some,
  ascending s.start ss (All-tail (λ s. 0 < s.len) s ss some)
      (λ i j d ij lt. rise (suc i) (suc j) d (omega arith) (omega arith))
      (λ d lt. rise 0 1 d (omega arith) (omega arith)),
)

abbrev pub occupies : Span → Bool
occupies s = ltb 0 s.len

pub lies_occupied : (ss : List Span) (a : ℕ) → lies_in (filter occupies ss) a ≡ lies_in ss a
lies_occupied [] a = refl
lies_occupied (s ∷ ss) a =
    elim (cases_lt 0 s.len) [
      | inl lt ↦
          let yes : ltb 0 s.len ≡ true = grind (arith, nat_tests) in
          rw (yes, lies_occupied ss a) refl
      | inr le ↦
          let no : ltb 0 s.len ≡ false = grind (arith, nat_tests) in
          let none : covers a s ≡ false =
          elim (cases_lt a s.start)
          [ inl lt ↦ covers_before a s lt | inr over ↦ covers_behind a s (omega arith) ] in
          rw (no, none, lies_occupied ss a) refl
    ]

-- the ranges that have an address, in the order of their starts
pub record AreSorted (ranges sorted : List Span) : Type 0 where
  pub some : All (λ s. 0 < s.len) sorted
  pub rise : IsNonDecreasingBy (λ (s : Span). s.start) sorted
  pub fit : All EndsInTime sorted
  pub same : (a : ℕ) → lies_in sorted a ≡ lies_in ranges a

pub are_sorted : (ranges some sorted : List Span) → All EndsInTime ranges → some ≡ filter occupies ranges
    → IsPermutation some sorted
    → IsNonDecreasingBy (λ (s : Span). s.start) sorted → AreSorted ranges sorted
are_sorted ranges some sorted fit is moved rise = record {
  some = All-permutation (λ (s : Span). 0 < s.len) some sorted moved
      (λ k d lt. rw is (ltb-true 0 _ (filter_passes occupies ranges k d (rw is at lt))));
  rise = rise;
  fit = All-permutation EndsInTime some sorted moved (rw is (All-filter occupies EndsInTime ranges fit));
  same =
      λ a. sym (list_any-IsPermutation (covers a) some sorted moved) ∙ ap (λ ss. lies_in ss a) is
      ∙ lies_occupied ranges a;
}

pub first_joins : (ranges : List Span) (first : Span) (others : List Span) → AreSorted ranges (first ∷ others)
    → (0 < first.len) × Ascends first.start others × EndsInTime first × All EndsInTime others × AreJoined ranges
    (joined first others)
first_joins ranges first others is =
    let some : 0 < first.len = All-head (λ s. 0 < s.len) first others is.some in
    let up : Ascends first.start (first ∷ others) =
    ascending first.start (first ∷ others) is.some is.rise (λ d lt. omega arith) in
    let joins = are_joined first others some up.2 in (
      some,
      up.2,
      All-head EndsInTime first others is.fit,
      All-tail EndsInTime first others is.fit,
      record { some = joins.some; apart = joins.apart; same = λ a. joins.same a ∙ is.same a },
    )

pub none_joins : (ranges sorted pieces : List Span) → AreSorted ranges sorted → length sorted ≡ 0 → pieces ≡ []
    → AreJoined ranges pieces
none_joins ranges [] pieces is none same =
    subst (AreJoined ranges) (sym same) (record {
      some = All-nil (λ p. 0 < p.len);
      apart = λ i j d ij lt. absurd (omega arith);
      same = is.same;
    })
none_joins ranges (s ∷ ss) pieces is none same = absurd (omega (arith, none))

-- ---- pieces of ranges that are in memory

pub lies_of : (ss : List Span) (k : ℕ) (d : Span) (a : ℕ) → k < length ss → covers a (get_or ss k d) ≡ true
    → lies_in ss a ≡ true
lies_of [] k d a lt is_in = absurd (omega arith)
lies_of (s ∷ ss) zero d a lt is_in = rw is_in refl
lies_of (s ∷ ss) (suc k) d a lt is_in =
    let more =
    lies_of ss k d a (omega arith) is_in in rw more
    (elim (covers a s) as (λ b. (b || true) ≡ true) [ true ↦ refl | false ↦ refl ])

pub in_span : (a : ℕ) (s : Span) → covers a s ≡ true → (s.start ≤ a) × (a < s.start + s.len)
in_span a s is_in = by_tests (leb s.start a) (ltb a (s.start + s.len)) refl refl is_in
  where
    by_tests : (x y : Bool) → leb s.start a ≡ x → ltb a (s.start + s.len) ≡ y → (x && y) ≡ true
        → (s.start ≤ a) × (a < s.start + s.len)
    by_tests true true h k e = (grind (arith, nat_tests), grind (arith, nat_tests))
    by_tests true false h k e = absurd (cc)
    by_tests false y h k e = absurd (cc)

lies_held : (m : Memory) (ss : List Span) (a : ℕ) → All (HoldsSpan m) ss → lies_in ss a ≡ true → IsSome (m a)
lies_held m [] a held is_in = absurd (cc)
lies_held m (s ∷ ss) a held is_in =
    by_test (covers a s) refl (λ e. lies_held m ss a (All-tail (HoldsSpan m) s ss held) e) is_in
  where
    by_test : (b : Bool) → covers a s ≡ b → (lies_in ss a ≡ true → IsSome (m a)) → (b || lies_in ss a) ≡ true
        → IsSome (m a)
    by_test true here rest e =
        let h = in_span a s here in
        let at : s.start + (a - s.start) ≡ a = omega arith in
        rw at at (All-head (HoldsSpan m) s ss held (a - s.start) (omega arith))
    by_test false here rest e = rest e

-- pieces of ranges that are wholly in memory are too
pub pieces_held : (m : Memory) (ranges pieces : List Span) → All (HoldsSpan m) ranges → AreJoined ranges pieces
    → All (HoldsSpan m) pieces
pieces_held m ranges pieces held is = λ k d lt j less.
    let p = get_or pieces k d in
    let here : covers (p.start + j) p ≡ true = covers_within (p.start + j) p (omega arith) (omega arith) in
    lies_held m ranges (p.start + j) held (sym (is.same (p.start + j)) ∙ lies_of pieces k d (p.start + j) lt here)
