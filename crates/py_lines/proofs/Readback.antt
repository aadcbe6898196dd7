-- What is written for ranges, read again, has their lines.
use Rattle.std.proofs.Common.{◌≡◌, ◌∙◌, ℕ, zero, suc, ◌+◌, ◌-◌, ◌^◌, ◌<◌, ◌≤◌, List, [], ◌∷◌, ◌++◌, refl, sym, ap}
use Rattle.std.proofs.Common.{subst, arith, true, false, cond, ltb, eqb, inl, inr}
use Rattle.std.specs.Prelude.{Option, Some, None, ℤ, pos, negsuc, ◌+ℤ◌, ◌-ℤ◌}
use Rattle.std.specs.Option.{is_some, unwrap_or, option_and_then}
use Rattle.std.specs.Int.{w32}
use Rattle.std.specs.Int.RustNames.{FitsSigned}
use Rattle.std.proofs.lemmas.Bool.{cases_lt, lt-ltb, le-ltb}
use Rattle.std.proofs.lemmas.Bool.Decides.{nat_tests}
use Rattle.std.proofs.lemmas.Int.{ints}
use Rattle.py_lines.specs.declared.lines.LineFamily.{LineFamily}
use Rattle.py_lines.specs.declared.lines.LineFamily.TheVariants.{Pairs, Ranges, Locations}
use Rattle.py_lines.specs.declared.lines.LineRange.{LineRange}
use Rattle.py_lines.specs.Entries.{first_entry}
use Rattle.py_lines.specs.Lines.{ranges_of, kept, holds, line_among, shown_line, in_i32, delta_of}
use Rattle.py_lines.specs.Places.{line_with}
use Rattle.py_lines.specs.declared.runs.Run.{Run}
use Rattle.py_lines.specs.Coding.{first_unordered, end_of, wholes, rest_of, parts_of, run_of, piece_runs, runs_of}
use Rattle.py_lines.specs.Coding.{runs_bytes, delta_from, coded_behind, coded, IsCoding, KeepsLines, AreRuns}
use Rattle.py_lines.specs.Coding.{IsNearDelta, IsLine, AreLines}
use Rattle.py_lines.proofs.Places.{IsAhead, walk_begins, walk_ends, held_line}
use Rattle.py_lines.proofs.Coding.{all_stand, stands_so, writable, runs_are}
use Rattle.py_lines.proofs.ReadRuns.{place, Reads, advanced, climbed, advanced_none, advanced_255, advanced_16}
use Rattle.py_lines.proofs.ReadRuns.{climbed_none, climbed_up, climbed_127, climbed_128, run_past, run_here, once_here}
use Rattle.py_lines.proofs.ReadRuns.{one_some, pieces_at, pieces_past, pieces_here}

-- ---- a range

ends_255 : (len start : ℕ) → advanced (wholes 255 len) 255 start + rest_of 255 len ≡ start + len
ends_255 len start = omega (arith, advanced_255 (wholes 255 len) start)

ends_16 : (len start : ℕ) → advanced (wholes 16 len) 16 start + rest_of 16 len ≡ start + len
ends_16 len start = omega (arith, advanced_16 (wholes 16 len) start)

total_127 : (d line : ℤ) → climbed (parts_of 127 d).wholes (parts_of 127 d).whole line +ℤ (parts_of 127 d).last ≡ line +ℤ d
total_127 (pos n) line = omega (arith, ints, climbed_up (wholes 127 n) line)
total_127 (negsuc n) line = omega (arith, ints, climbed_127 (wholes 127 (suc n)) line)

total_128 : (d line : ℤ) → climbed (parts_of 128 d).wholes (parts_of 128 d).whole line +ℤ (parts_of 128 d).last ≡ line +ℤ d
total_128 (pos n) line = omega (arith, ints, climbed_up (wholes 127 n) line)
total_128 (negsuc n) line = omega (arith, ints, climbed_128 (wholes 128 (suc n)) line)

none_moves : (line : ℤ) → line +ℤ pos 0 ≡ line
none_moves line = omega (arith, ints)

module _ (offset : ℕ) (len : ℕ) (rest : List ℕ) (start : ℕ) (line : ℤ) where
  -- the pieces of a range behind a run that covers no code
  located_past : (family : LineFamily) (most times : ℕ) (part : ℤ) (first later : Option ℤ) (shown : ℤ) → delta_of later ≡ pos 0
      → advanced (wholes most len) most start + rest_of most len ≡ start + len
      → AreRuns family (piece_runs most len (run_of times 0 (Some part)) first later) → start + len ≤ offset
      → Reads offset family rest (start + len) (climbed times part line +ℤ delta_of first) shown
      → Reads offset family (runs_bytes family (piece_runs most len (run_of times 0 (Some part)) first later) ++ rest) start line shown
  located_past family most times part first later shown none ends are gone next =
      let runs = pieces_at most (wholes most len) (rest_of most len) first later in
      let at = climbed times part line in
      let still : advanced times 0 start ≡ start = advanced_none times start in
      let behind : Reads offset family (runs_bytes family runs ++ rest) start at shown =
      pieces_past offset family most (rest_of most len) first later rest start at none (wholes most len) shown are.1 (omega (arith, ends, gone))
      (subst (λ (n : ℕ). Reads offset family rest n (at +ℤ delta_of first) shown) (sym ends) next) in
      run_past offset family 0 (Some part) runs rest start line times shown are.0 (omega (arith, still, gone))
      (subst (λ (n : ℕ). Reads offset family (runs_bytes family runs ++ rest) n at shown) (sym still) behind)

  located_here : (family : LineFamily) (most times : ℕ) (part : ℤ) (first later l : Option ℤ) → delta_of later ≡ pos 0
      → advanced (wholes most len) most start + rest_of most len ≡ start + len
      → AreRuns family (piece_runs most len (run_of times 0 (Some part)) first later)
      → line_with family (climbed times part line) first ≡ l → line_with family (climbed times part line +ℤ delta_of first) later ≡ l
      → start ≤ offset → offset < start + len
      → Reads offset family (runs_bytes family (piece_runs most len (run_of times 0 (Some part)) first later) ++ rest) start line (shown_line l)
  located_here family most times part first later l none ends are is_first is_later from to =
      let runs = pieces_at most (wholes most len) (rest_of most len) first later in
      let at = climbed times part line in
      let still : advanced times 0 start ≡ start = advanced_none times start in
      let here : Reads offset family (runs_bytes family runs ++ rest) start at (shown_line l) =
      pieces_here offset family most (rest_of most len) first later rest start at none (wholes most len) l are.1 is_first is_later from (omega (arith, ends, to)) in
      run_past offset family 0 (Some part) runs rest start line times (shown_line l) are.0 (omega (arith, still, from))
      (subst (λ (n : ℕ). Reads offset family (runs_bytes family runs ++ rest) n at (shown_line l)) (sym still) here)

  -- a range of the later families
  ranges_past : (delta : Option ℤ) (shown : ℤ) → AreRuns Ranges (runs_of Ranges len delta) → start + len ≤ offset
      → Reads offset Ranges rest (start + len) (line +ℤ delta_of delta) shown → Reads offset Ranges (runs_bytes Ranges (runs_of Ranges len delta) ++ rest) start line shown
  ranges_past None shown are gone next = located_past Ranges 255 0 (pos 0) None None shown refl (ends_255 len start) are gone next
  ranges_past (Some d) shown are gone next =
      let parts = parts_of 127 d in
      located_past Ranges 255 parts.wholes parts.whole (Some parts.last) (Some (pos 0)) shown refl (ends_255 len start) are gone
      (subst (λ (z : ℤ). Reads offset Ranges rest (start + len) z shown) (sym (total_127 d line)) next)

  ranges_here : (delta : Option ℤ) → AreRuns Ranges (runs_of Ranges len delta) → start ≤ offset → offset < start + len
      → Reads offset Ranges (runs_bytes Ranges (runs_of Ranges len delta) ++ rest) start line (shown_line (line_with Ranges line delta))
  ranges_here None are from to = located_here Ranges 255 0 (pos 0) None None None refl (ends_255 len start) are refl refl from to
  ranges_here (Some d) are from to =
      let parts = parts_of 127 d in
      let at = climbed parts.wholes parts.whole line in
      let total : at +ℤ parts.last ≡ line +ℤ d = total_127 d line in
      located_here Ranges 255 parts.wholes parts.whole (Some parts.last) (Some (pos 0)) (in_i32 (line +ℤ d)) refl (ends_255 len start) are
      (ap in_i32 total) (ap in_i32 (none_moves (at +ℤ parts.last) ∙ total)) from to

  locations_past : (delta : Option ℤ) (shown : ℤ) → AreRuns Locations (runs_of Locations len delta) → start + len ≤ offset
      → Reads offset Locations rest (start + len) (line +ℤ delta_of delta) shown → Reads offset Locations (runs_bytes Locations (runs_of Locations len delta) ++ rest) start line shown
  locations_past None shown are gone next = located_past Locations 16 0 (pos 0) None None shown refl (ends_16 len start) are gone next
  locations_past (Some d) shown are gone next = located_past Locations 16 0 (pos 0) (Some d) (Some (pos 0)) shown refl (ends_16 len start) are gone next

  locations_here : (delta : Option ℤ) → AreRuns Locations (runs_of Locations len delta) → start ≤ offset → offset < start + len
      → Reads offset Locations (runs_bytes Locations (runs_of Locations len delta) ++ rest) start line (shown_line (line_with Locations line delta))
  locations_here None are from to = located_here Locations 16 0 (pos 0) None None None refl (ends_16 len start) are refl refl from to
  locations_here (Some d) are from to =
      located_here Locations 16 0 (pos 0) (Some d) (Some (pos 0)) (in_i32 (line +ℤ d)) refl (ends_16 len start) are
      refl (ap in_i32 (none_moves (line +ℤ d))) from to

-- the code since a range of `Pairs` began, and the step to the next
abbrev pair_at : ℕ → ℕ → ℕ → ℤ → ℤ → List Run
pair_at k left m whole last =
    run_of k 255 (Some (pos 0)) ∷ run_of (cond (eqb m 0) 0 1) left (Some whole) ∷ run_of (m - 1) 0 (Some whole) ∷ run_of 1 (cond (eqb m 0) left 0) (Some last) ∷ []

module _ (offset k left : ℕ) (whole last : ℤ) (rest : List ℕ) (start : ℕ) (line : ℤ) where
  pair_past : (m : ℕ) (shown : ℤ) → AreRuns Pairs (pair_at k left m whole last) → advanced k 255 start + left ≤ offset
      → Reads offset Pairs rest (advanced k 255 start + left) (climbed m whole line +ℤ last) shown
      → Reads offset Pairs (runs_bytes Pairs (pair_at k left m whole last) ++ rest) start line shown
  unfolding runs_bytes
  pair_past zero shown are gone next =
      let to = advanced k 255 start in
      let same : climbed k (pos 0) line ≡ line = climbed_none k (pos 0) line refl in
      let runs = run_of 0 left (Some whole) ∷ run_of 0 0 (Some whole) ∷ run_of 1 left (Some last) ∷ [] in
      let behind : Reads offset Pairs (runs_bytes Pairs runs ++ rest) to line shown =
      run_past offset Pairs left (Some whole) (run_of 0 0 (Some whole) ∷ run_of 1 left (Some last) ∷ []) rest to line 0 shown are.1.0 (omega (arith, gone))
      (run_past offset Pairs 0 (Some whole) (run_of 1 left (Some last) ∷ []) rest to line 0 shown are.1.1.0 (omega (arith, gone))
      (run_past offset Pairs left (Some last) [] rest to line 1 shown are.1.1.1.0 gone next)) in
      run_past offset Pairs 255 (Some (pos 0)) runs rest start line k shown are.0 (omega (arith, gone))
      (subst (λ (z : ℤ). Reads offset Pairs (runs_bytes Pairs runs ++ rest) to z shown) (sym same) behind)
  pair_past (suc j) shown are gone next =
      let some : eqb (suc j) 0 ≡ false = grind (arith, nat_tests) in
      let less : suc j - 1 ≡ j = omega arith in
      let runs = run_of 1 left (Some whole) ∷ run_of j 0 (Some whole) ∷ run_of 1 0 (Some last) ∷ [] in
      let all : AreRuns Pairs (run_of k 255 (Some (pos 0)) ∷ runs) = rw (some, less) at are in
      let to = advanced k 255 start in
      let same : climbed k (pos 0) line ≡ line = climbed_none k (pos 0) line refl in
      let end = to + left in
      let still : advanced j 0 end ≡ end = advanced_none j end in
      let moved = climbed j whole (line +ℤ whole) in
      let none : end + 0 ≡ end = omega arith in
      let at_last : Reads offset Pairs (runs_bytes Pairs (run_of 1 0 (Some last) ∷ []) ++ rest) end moved shown =
      run_past offset Pairs 0 (Some last) [] rest end moved 1 shown all.1.1.1.0 (omega (arith, gone))
      (subst (λ (n : ℕ). Reads offset Pairs rest n (moved +ℤ last) shown) (sym none) next) in
      let at_parts : Reads offset Pairs (runs_bytes Pairs (run_of j 0 (Some whole) ∷ run_of 1 0 (Some last) ∷ []) ++ rest) end (line +ℤ whole) shown =
      run_past offset Pairs 0 (Some whole) (run_of 1 0 (Some last) ∷ []) rest end (line +ℤ whole) j shown all.1.1.0 (omega (arith, still, gone))
      (subst (λ (n : ℕ). Reads offset Pairs (runs_bytes Pairs (run_of 1 0 (Some last) ∷ []) ++ rest) n moved shown) (sym still) at_last) in
      let behind : Reads offset Pairs (runs_bytes Pairs runs ++ rest) to line shown =
      run_past offset Pairs left (Some whole) (run_of j 0 (Some whole) ∷ run_of 1 0 (Some last) ∷ []) rest to line 1 shown all.1.0 gone at_parts in
      rw (some, less)
      (run_past offset Pairs 255 (Some (pos 0)) runs rest start line k shown all.0 (omega (arith, gone))
      (subst (λ (z : ℤ). Reads offset Pairs (runs_bytes Pairs runs ++ rest) to z shown) (sym same) behind))

  pair_behind : (m : ℕ) → AreRuns Pairs (pair_at k left m whole last) → advanced k 255 start ≤ offset → offset < advanced k 255 start + left
      → Reads offset Pairs (runs_bytes Pairs (pair_at k left m whole last) ++ rest) start line (shown_line (in_i32 line))
  unfolding runs_bytes
  pair_behind zero are from to =
      let at = advanced k 255 start in
      let same : climbed k (pos 0) line ≡ line = climbed_none k (pos 0) line refl in
      let shown = shown_line (in_i32 line) in
      let runs = run_of 0 left (Some whole) ∷ run_of 0 0 (Some whole) ∷ run_of 1 left (Some last) ∷ [] in
      let behind : Reads offset Pairs (runs_bytes Pairs runs ++ rest) at line shown =
      run_past offset Pairs left (Some whole) (run_of 0 0 (Some whole) ∷ run_of 1 left (Some last) ∷ []) rest at line 0 shown are.1.0 from
      (run_past offset Pairs 0 (Some whole) (run_of 1 left (Some last) ∷ []) rest at line 0 shown are.1.1.0 from
      (once_here offset Pairs left (Some last) [] rest at line (are.1.1.1.0 one_some) from to)) in
      run_past offset Pairs 255 (Some (pos 0)) runs rest start line k shown are.0 from
      (subst (λ (z : ℤ). Reads offset Pairs (runs_bytes Pairs runs ++ rest) at z shown) (sym same) behind)
  pair_behind (suc j) are from to =
      let some : eqb (suc j) 0 ≡ false = grind (arith, nat_tests) in
      let less : suc j - 1 ≡ j = omega arith in
      let others = run_of j 0 (Some whole) ∷ run_of 1 0 (Some last) ∷ [] in
      let runs = run_of 1 left (Some whole) ∷ others in
      let all : AreRuns Pairs (run_of k 255 (Some (pos 0)) ∷ runs) = rw (some, less) at are in
      let at = advanced k 255 start in
      let same : climbed k (pos 0) line ≡ line = climbed_none k (pos 0) line refl in
      let shown = shown_line (in_i32 line) in
      let behind : Reads offset Pairs (runs_bytes Pairs runs ++ rest) at line shown =
      once_here offset Pairs left (Some whole) others rest at line (all.1.0 one_some) from to in
      rw (some, less)
      (run_past offset Pairs 255 (Some (pos 0)) runs rest start line k shown all.0 from
      (subst (λ (z : ℤ). Reads offset Pairs (runs_bytes Pairs runs ++ rest) at z shown) (sym same) behind))

  pair_here : (m : ℕ) → AreRuns Pairs (pair_at k left m whole last) → start ≤ offset → offset < advanced k 255 start + left
      → Reads offset Pairs (runs_bytes Pairs (pair_at k left m whole last) ++ rest) start line (shown_line (in_i32 line))
  pair_here m are from to = elim (cases_lt offset (advanced k 255 start)) [
    | inl less ↦
        run_here offset Pairs 255 (Some (pos 0)) (run_of (cond (eqb m 0) 0 1) left (Some whole) ∷ run_of (m - 1) 0 (Some whole) ∷ run_of 1 (cond (eqb m 0) left 0) (Some last) ∷ []) rest start line
        k are.0 refl from less
    | inr more ↦ pair_behind m are more to
  ]

-- ---- the table

line_fits : (line : ℤ) → FitsSigned w32 line → in_i32 line ≡ Some line
line_fits (pos n) fits = let small : n < 2 ^ 31 = omega (arith, ints, fits) in rw (lt-ltb n (2 ^ 31) small) refl
line_fits (negsuc n) fits = let small : n < 2 ^ 31 = omega (arith, ints, fits) in rw (lt-ltb n (2 ^ 31) small) refl

-- the line that a range shows
range_shows : (line : ℤ) (next : Option ℤ) → IsLine next → option_and_then (λ d. in_i32 (line +ℤ d)) (delta_from line next) ≡ next
range_shows line None fits = refl
range_shows line (Some z) fits = let back : line +ℤ (z -ℤ line) ≡ z = omega (arith, ints) in rw back (line_fits z fits)

next_line : (line : ℤ) (next : Option ℤ) → line +ℤ delta_of (delta_from line next) ≡ unwrap_or next line
next_line line None = omega (arith, ints)
next_line line (Some z) = omega (arith, ints)

next_fits : (line : ℤ) (next : Option ℤ) → FitsSigned w32 line → IsLine next → FitsSigned w32 (unwrap_or next line)
next_fits line None fits is = fits
next_fits line (Some z) fits is = is

near_delta : (line : ℤ) (next : Option ℤ) → FitsSigned w32 line → IsLine next → IsNearDelta (delta_from line next)
near_delta line None fits is = tt
near_delta line (Some z) fits is = (omega (arith, ints, fits, is), omega (arith, ints, fits, is))

module _ (offset : ℕ) (r : LineRange) (rs : List LineRange) where
  among_here : r.start ≤ offset → offset < r.end → line_among (r ∷ rs) offset ≡ shown_line r.line
  unfolding line_among
  among_here from to = let held : holds offset r ≡ true = grind (arith, nat_tests) in rw held refl

  among_past : r.end ≤ offset → line_among (r ∷ rs) offset ≡ line_among rs offset
  unfolding line_among
  among_past gone = let free : holds offset r ≡ false = grind (arith, nat_tests) in rw free refl

module _ (offset : ℕ) where
  ranges_back : (rs : List LineRange) (at last : ℕ) (line : ℤ) → first_unordered Ranges at rs ≡ None → FitsSigned w32 line → AreLines rs → at ≤ offset → offset < end_of at rs
      → Reads offset Ranges (coded_behind Ranges last line rs) at line (line_among rs offset)
  unfolding coded_behind end_of
  ranges_back [] at last line ordered fits lines from to = absurd (omega (arith, from, to))
  ranges_back (r ∷ rs) at last line ordered fits lines from to =
      let stand = all_stand Ranges at (r ∷ rs) r rs refl ordered in
      let s = stands_so Ranges at r stand.0 in
      let delta = delta_from line r.line in
      let len = r.end - r.start in
      let rest = coded_behind Ranges r.start (unwrap_or r.line line) rs in
      let are = runs_are Ranges len delta (near_delta line r.line fits lines.0) (writable Ranges at last line r s) in
      let end : at + len ≡ r.end = omega (arith, s.begins, s.some) in
      let bytes = runs_bytes Ranges (runs_of Ranges len delta) ++ rest in
      elim (cases_lt offset r.end) [
        | inl less ↦
            subst (λ (z : ℤ). Reads offset Ranges bytes at line z) (ap shown_line (range_shows line r.line lines.0) ∙ sym (among_here offset r rs (omega (arith, s.begins, from)) less))
            (ranges_here offset len rest at line delta are from (omega (arith, end, less)))
        | inr more ↦
            let later : Reads offset Ranges rest r.end (unwrap_or r.line line) (line_among rs offset) =
            ranges_back rs r.end r.start (unwrap_or r.line line) stand.1 (next_fits line r.line fits lines.0) lines.1 more to in
            let moved : Reads offset Ranges rest r.end (line +ℤ delta_of delta) (line_among rs offset) =
            subst (λ (z : ℤ). Reads offset Ranges rest r.end z (line_among rs offset)) (sym (next_line line r.line)) later in
            subst (λ (z : ℤ). Reads offset Ranges bytes at line z) (sym (among_past offset r rs more))
            (ranges_past offset len rest at line delta (line_among rs offset) are (omega (arith, end, more))
            (subst (λ (n : ℕ). Reads offset Ranges rest n (line +ℤ delta_of delta) (line_among rs offset)) (sym end) moved))
      ]

  locations_back : (rs : List LineRange) (at last : ℕ) (line : ℤ) → first_unordered Locations at rs ≡ None → FitsSigned w32 line → AreLines rs → at ≤ offset → offset < end_of at rs
      → Reads offset Locations (coded_behind Locations last line rs) at line (line_among rs offset)
  unfolding coded_behind end_of
  locations_back [] at last line ordered fits lines from to = absurd (omega (arith, from, to))
  locations_back (r ∷ rs) at last line ordered fits lines from to =
      let stand = all_stand Locations at (r ∷ rs) r rs refl ordered in
      let s = stands_so Locations at r stand.0 in
      let delta = delta_from line r.line in
      let len = r.end - r.start in
      let rest = coded_behind Locations r.start (unwrap_or r.line line) rs in
      let are = runs_are Locations len delta (near_delta line r.line fits lines.0) (writable Locations at last line r s) in
      let end : at + len ≡ r.end = omega (arith, s.begins, s.some) in
      let bytes = runs_bytes Locations (runs_of Locations len delta) ++ rest in
      elim (cases_lt offset r.end) [
        | inl less ↦
            subst (λ (z : ℤ). Reads offset Locations bytes at line z) (ap shown_line (range_shows line r.line lines.0) ∙ sym (among_here offset r rs (omega (arith, s.begins, from)) less))
            (locations_here offset len rest at line delta are from (omega (arith, end, less)))
        | inr more ↦
            let later : Reads offset Locations rest r.end (unwrap_or r.line line) (line_among rs offset) =
            locations_back rs r.end r.start (unwrap_or r.line line) stand.1 (next_fits line r.line fits lines.0) lines.1 more to in
            let moved : Reads offset Locations rest r.end (line +ℤ delta_of delta) (line_among rs offset) =
            subst (λ (z : ℤ). Reads offset Locations rest r.end z (line_among rs offset)) (sym (next_line line r.line)) later in
            subst (λ (z : ℤ). Reads offset Locations bytes at line z) (sym (among_past offset r rs more))
            (locations_past offset len rest at line delta (line_among rs offset) are (omega (arith, end, more))
            (subst (λ (n : ℕ). Reads offset Locations rest n (line +ℤ delta_of delta) (line_among rs offset)) (sym end) moved))
      ]

next_pair : (line : ℤ) (next : Option ℤ) → line +ℤ unwrap_or (delta_from line next) (pos 0) ≡ unwrap_or next line
next_pair line None = omega (arith, ints)
next_pair line (Some z) = omega (arith, ints)

shown_some : (line : ℤ) (next : Option ℤ) → is_some next ≡ true → shown_line next ≡ unwrap_or next line
shown_some line None e = absurd (cc)
shown_some line (Some z) e = refl

module _ (offset : ℕ) where
  -- behind the last range the code goes on with its line
  pairs_end : (at last : ℕ) (line : ℤ) → FitsSigned w32 line → at < 2 ^ 31 → last ≤ offset → offset < at
      → Reads offset Pairs [] last line line
  unfolding first_entry
  pairs_end at last line fits small from to ahead is =
      let r : LineRange = record { start = last; end = 2 ^ 31; line = in_i32 line } in
      let ends : kept r [] ≡ ahead = walk_ends Pairs [] (place last line) ahead is refl in
      let held : holds offset r ≡ true = grind (arith, nat_tests) in
      held_line offset r [] ahead ends held ∙ ap shown_line (line_fits line fits)

  pairs_back : (rs : List LineRange) (at last : ℕ) (line : ℤ) → first_unordered Pairs at rs ≡ None → FitsSigned w32 line → AreLines rs
      → last ≤ at → at < 2 ^ 31 → last ≤ offset → offset < end_of at rs
      → Reads offset Pairs (coded_behind Pairs last line rs) last line (cond (ltb offset at) line (line_among rs offset))
  unfolding coded_behind end_of
  pairs_back [] at last line ordered fits lines behind small from to =
      subst (λ (z : ℤ). Reads offset Pairs [] last line z) (rw (lt-ltb offset at to) refl) (pairs_end at last line fits small from to)
  pairs_back (r ∷ rs) at last line ordered fits lines behind small from to =
      let stand = all_stand Pairs at (r ∷ rs) r rs refl ordered in
      let s = stands_so Pairs at r stand.0 in
      let delta = delta_from line r.line in
      let next = unwrap_or r.line line in
      let gap = r.start - last in
      let parts = parts_of 128 (unwrap_or delta (pos 0)) in
      let k = wholes 255 gap in
      let left = rest_of 255 gap in
      let rest = coded_behind Pairs r.start next rs in
      let are = runs_are Pairs gap delta (near_delta line r.line fits lines.0) (writable Pairs at last line r s) in
      let ends : advanced k 255 last + left ≡ r.start = omega (arith, ends_255 gap last, s.begins, behind) in
      let bytes = runs_bytes Pairs (runs_of Pairs gap delta) ++ rest in
      elim (cases_lt offset at) [
        | inl less ↦
            let shown : shown_line (in_i32 line) ≡ cond (ltb offset at) line (line_among (r ∷ rs) offset) = rw (lt-ltb offset at less) (ap shown_line (line_fits line fits)) in
            subst (λ (z : ℤ). Reads offset Pairs bytes last line z) shown
            (pair_here offset k left parts.whole parts.last rest last line parts.wholes are from (omega (arith, ends, s.begins, less)))
        | inr more ↦
            let ahead = cond (ltb offset r.end) next (line_among rs offset) in
            let later : Reads offset Pairs rest r.start next ahead =
            pairs_back rs r.end r.start next stand.1 (next_fits line r.line fits lines.0) lines.1 (omega (arith, s.some)) s.ends (omega (arith, s.begins, more)) to in
            let total : climbed parts.wholes parts.whole line +ℤ parts.last ≡ next = total_128 (unwrap_or delta (pos 0)) line ∙ next_pair line r.line in
            let at_next : Reads offset Pairs rest (advanced k 255 last + left) next ahead = subst (λ (n : ℕ). Reads offset Pairs rest n next ahead) (sym ends) later in
            let moved : Reads offset Pairs rest (advanced k 255 last + left) (climbed parts.wholes parts.whole line +ℤ parts.last) ahead =
            subst (λ (z : ℤ). Reads offset Pairs rest (advanced k 255 last + left) z ahead) (sym total) at_next in
            let past : Reads offset Pairs bytes last line ahead =
            pair_past offset k left parts.whole parts.last rest last line parts.wholes ahead are (omega (arith, ends, s.begins, more)) moved in
            let among : ahead ≡ line_among (r ∷ rs) offset = elim (cases_lt offset r.end) [
              | inl inside ↦ rw (lt-ltb offset r.end inside) (sym (among_here offset r rs (omega (arith, s.begins, more)) inside ∙ shown_some line r.line s.form))
              | inr outside ↦ rw (le-ltb offset r.end outside) (sym (among_past offset r rs outside))
            ] in
            subst (λ (z : ℤ). Reads offset Pairs bytes last line z) (among ∙ (rw (le-ltb offset at more) refl)) past
      ]

pub keeps_lines : (family : LineFamily) (first : ℤ) (rs : List LineRange) (table : List ℕ) → FitsSigned w32 first → AreLines rs → IsCoding family first rs table → KeepsLines family first rs table
unfolding coded
keeps_lines Pairs first rs table fits lines coding offset below =
    let none : ltb offset 0 ≡ false = le-ltb offset 0 (omega arith) in
    pairs_back offset rs 0 0 first coding.ordered fits lines (omega arith) (omega arith) (omega arith) below (ranges_of Pairs first table)
    (subst (λ (bytes : List ℕ). IsAhead Pairs bytes (place 0 first) (ranges_of Pairs first table)) coding.bytes (walk_begins Pairs first first table refl fits coding.short))
    ∙ rw none refl
keeps_lines Ranges first rs table fits lines coding offset below =
    ranges_back offset rs 0 0 first coding.ordered fits lines (omega arith) below (ranges_of Ranges first table)
    (subst (λ (bytes : List ℕ). IsAhead Ranges bytes (place 0 first) (ranges_of Ranges first table)) coding.bytes (walk_begins Ranges first first table refl fits coding.short))
keeps_lines Locations first rs table fits lines coding offset below =
    locations_back offset rs 0 0 first coding.ordered fits lines (omega arith) below (ranges_of Locations first table)
    (subst (λ (bytes : List ℕ). IsAhead Locations bytes (place 0 first) (ranges_of Locations first table)) coding.bytes (walk_begins Locations first first table refl fits coding.short))
