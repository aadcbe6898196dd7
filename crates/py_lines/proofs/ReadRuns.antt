-- The line at an offset, where runs of entries are read.
use Rattle.std.proofs.Common.{◌≡◌, ◌∙◌, ℕ, zero, suc, ◌+◌, ◌-◌, ◌*◌, ◌<◌, ◌≤◌, List, [], ◌∷◌, ◌++◌, length, refl, sym}
use Rattle.std.proofs.Common.{ap, subst, append_assoc, length-append, arith, true, false, cond, eqb, inl, inr}
use Rattle.std.specs.Prelude.{Option, ℤ, pos, negsuc, ◌+ℤ◌, ◌-ℤ◌}
use Rattle.std.proofs.Math.Seq.{drop-append_seam}
use Rattle.std.proofs.lemmas.Bool.{cases_lt}
use Rattle.std.proofs.lemmas.Bool.Decides.{nat_tests}
use Rattle.std.proofs.lemmas.Int.{ints}
use Rattle.std.proofs.lemmas.List.{append-nil}
use Rattle.py_lines.specs.declared.lines.LineFamily.{LineFamily}
use Rattle.py_lines.specs.declared.lines.LineRange.{LineRange}
use Rattle.py_lines.specs.declared.lines.Place.{Place}
use Rattle.py_lines.specs.Entries.{HasEntryRoom}
use Rattle.py_lines.specs.Lines.{kept, holds, line_among, shown_line, delta_of}
use Rattle.py_lines.specs.Places.{line_with, line_range_at, past}
use Rattle.py_lines.specs.declared.runs.Run.{Run}
use Rattle.py_lines.specs.Coding.{run_of, entry_bytes, repeated, runs_bytes, IsPart, IsRun, AreRuns}
use Rattle.py_lines.proofs.Places.{IsAhead, walk_passes, held_line, passed_line}
use Rattle.py_lines.proofs.ReadEntries.{entry_with, entry_read, part_small, some_bytes}

-- ---- the line at an offset, read from a place on

abbrev pub place : ℕ → ℤ → Place
place start line = record { start = start; line = line }

abbrev pub Reads : ℕ → LineFamily → List ℕ → ℕ → ℤ → ℤ → Type 0
Reads offset family bytes start line shown =
    (ahead : List LineRange) → IsAhead family bytes (place start line) ahead → line_among ahead offset ≡ shown

-- a place behind so many entries that are alike
abbrev pub advanced : ℕ → ℕ → ℕ → ℕ
advanced zero covers start = start
advanced (suc k) covers start = advanced k covers (start + covers)

abbrev pub climbed : ℕ → ℤ → ℤ → ℤ
climbed zero d line = line
climbed (suc k) d line = climbed k d (line +ℤ d)

pub advanced_least : (k covers start : ℕ) → start ≤ advanced k covers start
advanced_least zero covers start = omega arith
advanced_least (suc k) covers start = omega (arith, advanced_least k covers (start + covers))

pub advanced_none : (k start : ℕ) → advanced k 0 start ≡ start
advanced_none zero start = refl
advanced_none (suc k) start = let same : start + 0 ≡ start = omega arith in rw same (advanced_none k start)

pub advanced_255 : (k start : ℕ) → advanced k 255 start ≡ start + 255 * k
advanced_255 zero start = omega arith
advanced_255 (suc k) start = omega (arith, advanced_255 k (start + 255))

pub advanced_16 : (k start : ℕ) → advanced k 16 start ≡ start + 16 * k
advanced_16 zero start = omega arith
advanced_16 (suc k) start = omega (arith, advanced_16 k (start + 16))

pub climbed_none : (k : ℕ) (d line : ℤ) → d ≡ pos 0 → climbed k d line ≡ line
climbed_none zero d line none = refl
climbed_none (suc k) d line none = let same : line +ℤ d ≡ line = omega (arith, ints, none) in rw same (climbed_none k d line none)

pub climbed_up : (k : ℕ) (line : ℤ) → climbed k (pos 127) line ≡ line +ℤ pos (127 * k)
climbed_up zero line = omega (arith, ints)
climbed_up (suc k) line = climbed_up k (line +ℤ pos 127) ∙ omega (arith, ints)

pub climbed_127 : (k : ℕ) (line : ℤ) → climbed k (negsuc 126) line ≡ line -ℤ pos (127 * k)
climbed_127 zero line = omega (arith, ints)
climbed_127 (suc k) line = climbed_127 k (line +ℤ negsuc 126) ∙ omega (arith, ints)

pub climbed_128 : (k : ℕ) (line : ℤ) → climbed k (negsuc 127) line ≡ line -ℤ pos (128 * k)
climbed_128 zero line = omega (arith, ints)
climbed_128 (suc k) line = climbed_128 k (line +ℤ negsuc 127) ∙ omega (arith, ints)

module _ (offset : ℕ) (family : LineFamily) (covers : ℕ) (delta : Option ℤ) (rest : List ℕ) where
  step : (start : ℕ) (line : ℤ) → IsPart family covers delta → (ahead : List LineRange) → IsAhead family (entry_bytes family covers delta ++ rest) (place start line) ahead
      → (later : List LineRange) × (kept (line_range_at family (place start line) (entry_with (length (entry_bytes family covers delta)) covers delta)) later ≡ ahead) × IsAhead family rest (place (start + covers) (line +ℤ delta_of delta)) later
  step start line part ahead at =
      let b = entry_bytes family covers delta in
      let e = entry_with (length b) covers delta in
      let room : HasEntryRoom (length (b ++ rest)) e = record { begins = some_bytes family covers delta; ends = omega (arith, length-append b rest) } in
      let passed = walk_passes family (b ++ rest) (place start line) ahead e at (entry_read family covers delta rest part) room (part_small family (length b) covers delta part) in
      (passed.0, passed.1, subst (λ (left : List ℕ). IsAhead family left (past (place start line) e) passed.0) (drop-append_seam b rest) passed.2)

  pub entry_here : (start : ℕ) (line : ℤ) → IsPart family covers delta → start ≤ offset → offset < start + covers
      → Reads offset family (entry_bytes family covers delta ++ rest) start line (shown_line (line_with family line delta))
  entry_here start line part from to ahead at =
      let taken = step start line part ahead at in
      let here = line_range_at family (place start line) (entry_with (length (entry_bytes family covers delta)) covers delta) in
      let held : holds offset here ≡ true = grind (arith, nat_tests) in
      held_line offset here taken.0 ahead taken.1 held

  pub entry_past : (start : ℕ) (line shown : ℤ) → IsPart family covers delta → start + covers ≤ offset
      → Reads offset family rest (start + covers) (line +ℤ delta_of delta) shown
      → Reads offset family (entry_bytes family covers delta ++ rest) start line shown
  entry_past start line shown part gone next ahead at =
      let taken = step start line part ahead at in
      let here = line_range_at family (place start line) (entry_with (length (entry_bytes family covers delta)) covers delta) in
      let free : holds offset here ≡ false = grind (arith, nat_tests) in
      sym (passed_line offset here taken.0 ahead taken.1 free) ∙ next taken.0 taken.2

-- ---- runs

module _ (offset : ℕ) (family : LineFamily) (covers : ℕ) (delta : Option ℤ) (rest : List ℕ) (part : IsPart family covers delta) where
  pub times_past : (times start : ℕ) (line shown : ℤ) → advanced times covers start ≤ offset
      → Reads offset family rest (advanced times covers start) (climbed times (delta_of delta) line) shown
      → Reads offset family (repeated times (entry_bytes family covers delta) ++ rest) start line shown
  unfolding repeated
  times_past zero start line shown gone next = next
  times_past (suc k) start line shown gone next =
      let b = entry_bytes family covers delta in
      let later : Reads offset family (repeated k b ++ rest) (start + covers) (line +ℤ delta_of delta) shown = times_past k (start + covers) (line +ℤ delta_of delta) shown gone next in
      let least : start + covers ≤ offset = omega (arith, gone, advanced_least k covers (start + covers)) in
      let all : Reads offset family (b ++ (repeated k b ++ rest)) start line shown = entry_past offset family covers delta (repeated k b ++ rest) start line shown part least later in
      subst (λ (bytes : List ℕ). Reads offset family bytes start line shown) (sym (append_assoc b (repeated k b) rest)) all

  pub times_here : (times start : ℕ) (line : ℤ) → delta_of delta ≡ pos 0 → start ≤ offset → offset < advanced times covers start
      → Reads offset family (repeated times (entry_bytes family covers delta) ++ rest) start line (shown_line (line_with family line delta))
  unfolding repeated
  times_here zero start line none from to = absurd (omega (arith, from, to))
  times_here (suc k) start line none from to =
      let b = entry_bytes family covers delta in
      let shown = shown_line (line_with family line delta) in
      let all : Reads offset family (b ++ (repeated k b ++ rest)) start line shown =
      elim (cases_lt offset (start + covers)) [
        | inl less ↦ entry_here offset family covers delta (repeated k b ++ rest) start line part from less
        | inr more ↦
            let same : line +ℤ delta_of delta ≡ line = omega (arith, ints, none) in
            let later : Reads offset family (repeated k b ++ rest) (start + covers) line shown = times_here k (start + covers) line none more to in
            entry_past offset family covers delta (repeated k b ++ rest) start line shown part more
            (subst (λ (z : ℤ). Reads offset family (repeated k b ++ rest) (start + covers) z shown) (sym same) later)
      ] in
      subst (λ (bytes : List ℕ). Reads offset family bytes start line shown) (sym (append_assoc b (repeated k b) rest)) all

-- ---- runs among others

module _ (offset : ℕ) (family : LineFamily) (covers : ℕ) (delta : Option ℤ) (rs : List Run) (rest : List ℕ) (start : ℕ) (line : ℤ) where
  pub run_past : (times : ℕ) (shown : ℤ) → IsRun family (run_of times covers delta) → advanced times covers start ≤ offset
      → Reads offset family (runs_bytes family rs ++ rest) (advanced times covers start) (climbed times (delta_of delta) line) shown
      → Reads offset family (runs_bytes family (run_of times covers delta ∷ rs) ++ rest) start line shown
  unfolding runs_bytes repeated
  run_past zero shown is gone next = next
  run_past (suc k) shown is gone next =
      let b = repeated (suc k) (entry_bytes family covers delta) in
      subst (λ (bytes : List ℕ). Reads offset family bytes start line shown) (sym (append_assoc b (runs_bytes family rs) rest))
      (times_past offset family covers delta (runs_bytes family rs ++ rest) (is (omega arith)) (suc k) start line shown gone next)

  pub run_here : (times : ℕ) → IsRun family (run_of times covers delta) → delta_of delta ≡ pos 0 → start ≤ offset → offset < advanced times covers start
      → Reads offset family (runs_bytes family (run_of times covers delta ∷ rs) ++ rest) start line (shown_line (line_with family line delta))
  unfolding runs_bytes
  run_here zero is none from to = absurd (omega (arith, from, to))
  run_here (suc k) is none from to =
      let b = repeated (suc k) (entry_bytes family covers delta) in
      subst (λ (bytes : List ℕ). Reads offset family bytes start line (shown_line (line_with family line delta))) (sym (append_assoc b (runs_bytes family rs) rest))
      (times_here offset family covers delta (runs_bytes family rs ++ rest) (is (omega arith)) (suc k) start line none from to)

  pub once_here : IsPart family covers delta → start ≤ offset → offset < start + covers
      → Reads offset family (runs_bytes family (run_of 1 covers delta ∷ rs) ++ rest) start line (shown_line (line_with family line delta))
  unfolding runs_bytes repeated
  once_here part from to =
      let b = entry_bytes family covers delta in
      let same : (b ++ []) ++ runs_bytes family rs ++ rest ≡ b ++ (runs_bytes family rs ++ rest) =
      ap (λ (bs : List ℕ). bs ++ runs_bytes family rs ++ rest) (append-nil b) ∙ append_assoc b (runs_bytes family rs) rest in
      subst (λ (bytes : List ℕ). Reads offset family bytes start line (shown_line (line_with family line delta))) (sym same)
      (entry_here offset family covers delta (runs_bytes family rs ++ rest) start line part from to)

pub one_some : 0 < 1
one_some = omega arith

-- ---- code in pieces

abbrev pub pieces_at : ℕ → ℕ → ℕ → Option ℤ → Option ℤ → List Run
pieces_at most q left first later =
    run_of (cond (eqb q 0) 0 1) most first ∷ run_of (q - 1) most later ∷ run_of 1 left (cond (eqb q 0) first later) ∷ []

module _ (offset : ℕ) (family : LineFamily) (most left : ℕ) (first later : Option ℤ) (rest : List ℕ) (start : ℕ) (line : ℤ) (none : delta_of later ≡ pos 0) where
  pub pieces_past : (q : ℕ) (shown : ℤ) → AreRuns family (pieces_at most q left first later) → advanced q most start + left ≤ offset
      → Reads offset family rest (advanced q most start + left) (line +ℤ delta_of first) shown
      → Reads offset family (runs_bytes family (pieces_at most q left first later) ++ rest) start line shown
  unfolding runs_bytes
  pieces_past zero shown are gone next =
      run_past offset family most first (run_of 0 most later ∷ run_of 1 left first ∷ []) rest start line 0 shown are.0 (omega (arith, gone))
      (run_past offset family most later (run_of 1 left first ∷ []) rest start line 0 shown are.1.0 (omega (arith, gone))
      (run_past offset family left first [] rest start line 1 shown are.1.1.0 gone next))
  pieces_past (suc k) shown are gone next =
      let some : eqb (suc k) 0 ≡ false = grind (arith, nat_tests) in
      let less : suc k - 1 ≡ k = omega arith in
      let all : AreRuns family (run_of 1 most first ∷ run_of k most later ∷ run_of 1 left later ∷ []) = rw (some, less) at are in
      let to = advanced k most (start + most) in
      let moved = line +ℤ delta_of first in
      let same : climbed k (delta_of later) moved ≡ moved = climbed_none k (delta_of later) moved none in
      let last : moved +ℤ delta_of later ≡ moved = omega (arith, ints, none) in
      let at_last : Reads offset family (runs_bytes family (run_of 1 left later ∷ []) ++ rest) to moved shown =
      run_past offset family left later [] rest to moved 1 shown all.1.1.0 gone
      (subst (λ (z : ℤ). Reads offset family rest (to + left) z shown) (sym last) next) in
      let at_later : Reads offset family (runs_bytes family (run_of k most later ∷ run_of 1 left later ∷ []) ++ rest) (start + most) moved shown =
      run_past offset family most later (run_of 1 left later ∷ []) rest (start + most) moved k shown all.1.0 (omega (arith, gone))
      (subst (λ (z : ℤ). Reads offset family (runs_bytes family (run_of 1 left later ∷ []) ++ rest) to z shown) (sym same) at_last) in
      rw (some, less)
      (run_past offset family most first (run_of k most later ∷ run_of 1 left later ∷ []) rest start line 1 shown all.0 (omega (arith, gone, advanced_least k most (start + most))) at_later)

  pub pieces_here : (q : ℕ) (l : Option ℤ) → AreRuns family (pieces_at most q left first later) → line_with family line first ≡ l → line_with family (line +ℤ delta_of first) later ≡ l
      → start ≤ offset → offset < advanced q most start + left
      → Reads offset family (runs_bytes family (pieces_at most q left first later) ++ rest) start line (shown_line l)
  unfolding runs_bytes
  pieces_here zero l are is_first is_later from to =
      let shown = shown_line l in
      let here : Reads offset family (runs_bytes family (run_of 1 left first ∷ []) ++ rest) start line shown =
      subst (λ (o : Option ℤ). Reads offset family (runs_bytes family (run_of 1 left first ∷ []) ++ rest) start line (shown_line o)) is_first
      (once_here offset family left first [] rest start line (are.1.1.0 one_some) from to) in
      run_past offset family most first (run_of 0 most later ∷ run_of 1 left first ∷ []) rest start line 0 shown are.0 from
      (run_past offset family most later (run_of 1 left first ∷ []) rest start line 0 shown are.1.0 from here)
  pieces_here (suc k) l are is_first is_later from to =
      let some : eqb (suc k) 0 ≡ false = grind (arith, nat_tests) in
      let less : suc k - 1 ≡ k = omega arith in
      let all : AreRuns family (run_of 1 most first ∷ run_of k most later ∷ run_of 1 left later ∷ []) = rw (some, less) at are in
      let end = advanced k most (start + most) in
      let shown = shown_line l in
      let moved = line +ℤ delta_of first in
      let runs = run_of k most later ∷ run_of 1 left later ∷ [] in
      let same : climbed k (delta_of later) moved ≡ moved = climbed_none k (delta_of later) moved none in
      rw (some, less) (elim (cases_lt offset (start + most)) [
        | inl less ↦
            subst (λ (o : Option ℤ). Reads offset family (runs_bytes family (run_of 1 most first ∷ runs) ++ rest) start line (shown_line o)) is_first
            (once_here offset family most first runs rest start line (all.0 one_some) from less)
        | inr more ↦
            run_past offset family most first runs rest start line 1 shown all.0 more
            (elim (cases_lt offset end) [
              | inl below ↦
                  subst (λ (o : Option ℤ). Reads offset family (runs_bytes family runs ++ rest) (start + most) moved (shown_line o)) is_later
                  (run_here offset family most later (run_of 1 left later ∷ []) rest (start + most) moved k all.1.0 none more below)
              | inr above ↦
                  run_past offset family most later (run_of 1 left later ∷ []) rest (start + most) moved k shown all.1.0 above
                  (subst (λ (z : ℤ). Reads offset family (runs_bytes family (run_of 1 left later ∷ []) ++ rest) end z shown) (sym same)
                  (subst (λ (o : Option ℤ). Reads offset family (runs_bytes family (run_of 1 left later ∷ []) ++ rest) end moved (shown_line o)) is_later
                  (once_here offset family left later [] rest end moved (all.1.1.0 one_some) above to)))
            ])
      ])
