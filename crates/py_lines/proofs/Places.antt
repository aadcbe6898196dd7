-- A walk over a table, entry by entry.
use Rattle.std.proofs.Common.{◌≡◌, ℕ, zero, suc, ◌+◌, ◌-◌, ◌*◌, ◌^◌, ◌<◌, ◌≤◌, List, [], ◌∷◌, ◌++◌, length, drop, refl}
use Rattle.std.proofs.Common.{subst, append_assoc, sym, ap, ◌∙◌, arith, true, false, ltb, cond, inl, inr}
use Rattle.std.specs.Prelude.{Option, Some, None, ℤ, pos, negsuc, ◌+ℤ◌, ◌-ℤ◌, ◌≤ℤ◌, ◌<ℤ◌}
use Rattle.std.specs.Option.{is_some, option_and_then}
use Rattle.std.specs.Int.{w32}
use Rattle.std.proofs.lemmas.Bool.{cases_lt}
use Rattle.std.proofs.lemmas.Bool.Decides.{nat_tests}
use Rattle.std.specs.Int.RustNames.{FitsSigned}
use Rattle.std.proofs.lemmas.Int.{ints}
use Rattle.std.proofs.lemmas.List.{length-drop}
use Rattle.std.proofs.lemmas.List.Sums.{sum_by-append}
use Rattle.py_lines.specs.declared.lines.LineFamily.{LineFamily}
use Rattle.py_lines.specs.declared.lines.LineFamily.TheVariants.{Pairs, Ranges, Locations}
use Rattle.py_lines.specs.declared.lines.LineRange.{LineRange}
use Rattle.py_lines.specs.declared.lines.Place.{Place}
use Rattle.py_lines.specs.declared.entry.Entry.{Entry}
use Rattle.py_lines.specs.Entries.{first_entry, entries_within, entries_of, HasEntryRoom, IsSmall, IsWithin}
use Rattle.py_lines.specs.Lines.{ranges_behind, ranges_of, last_range, line_under, in_i32, covered, moved, delta_of}
use Rattle.py_lines.specs.Lines.{kept, line_among, holds, shown_line, AscendFrom}
use Rattle.py_lines.specs.Places.{laid, line_with, line_range_at, past, last_at, kept_last, IsNear}

-- ---- the entries

pub entries_end : (n : ℕ) (family : LineFamily) (table : List ℕ) → first_entry family table ≡ None → entries_within n family table ≡ []
unfolding entries_within
entries_end zero family table e = refl
entries_end (suc n) family table e = rw e refl

pub entries_next : (n : ℕ) (family : LineFamily) (table : List ℕ) (e : Entry) → first_entry family table ≡ Some e → entries_within (suc n) family table ≡ e ∷ entries_within n family (drop e.size table)
unfolding entries_within
entries_next n family table e is = rw is refl

-- ---- sums over one more entry

pub covered-one : (before : List Entry) (e : Entry) → covered (before ++ e ∷ []) ≡ covered before + e.covers
covered-one before e = sum_by-append (λ e. e.covers) before (e ∷ []) ∙ omega arith

pub moved-one : (before : List Entry) (e : Entry) → moved (before ++ e ∷ []) ≡ moved before +ℤ delta_of e.delta
moved-one [] e = omega (arith, ints)
moved-one (x ∷ xs) e = rw (moved-one xs e) (omega (arith, ints))

module _ (first : ℤ) where
  -- the line under an entry that moves it first
  moved_first : (running behind : ℤ) (delta : Option ℤ) → behind ≡ running +ℤ delta_of delta → option_and_then (λ d. in_i32 (running +ℤ d)) delta ≡ cond (is_some delta) (in_i32 behind) None
  moved_first running behind None e = refl
  moved_first running behind (Some d) e = ap in_i32 (sym e)

  behind_one : (line : ℤ) (before : List Entry) (e : Entry) → line ≡ first +ℤ moved before → first +ℤ moved (before ++ e ∷ []) ≡ line +ℤ delta_of e.delta
  behind_one line before e is = rw (moved-one before e) (omega (arith, ints))

  line_is : (family : LineFamily) (line : ℤ) (before : List Entry) (e : Entry) → line ≡ first +ℤ moved before → line_with family line e.delta ≡ line_under family first before e
  line_is Pairs line before e is = ap in_i32 is
  line_is Ranges line before e is = moved_first line (first +ℤ moved (before ++ e ∷ [])) e.delta (behind_one line before e is)
  line_is Locations line before e is = moved_first line (first +ℤ moved (before ++ e ∷ [])) e.delta (behind_one line before e is)

  last_is : (family : LineFamily) (p : Place) (es : List Entry) → p.start ≡ covered es → p.line ≡ first +ℤ moved es → kept_last (last_at family p) ≡ last_range family first es
  last_is Pairs p es start line =
      ap (λ n. kept (record { start = n; end = 2 ^ 31; line = in_i32 p.line }) []) start ∙ ap (λ z. kept (record { start = covered es; end = 2 ^ 31; line = in_i32 z }) []) line
  last_is Ranges p es start line = refl
  last_is Locations p es start line = refl

  -- the ranges from a place on are those of the entries behind the ones that lead there
  pub laid_is : (family : LineFamily) (p : Place) (before es : List Entry) → p.start ≡ covered before → p.line ≡ first +ℤ moved before → laid family p es ≡ ranges_behind family first before es
  unfolding laid ranges_behind
  laid_is family p before [] start line = last_is family p before start line
  laid_is family p before (e ∷ es) start line =
      let later : laid family (past p e) es ≡ ranges_behind family first (before ++ e ∷ []) es =
      laid_is family (past p e) (before ++ e ∷ []) es (ap (λ n. n + e.covers) start ∙ sym (covered-one before e)) (sym (behind_one p.line before e line)) in
      ap (kept (line_range_at family p e)) later
      ∙ ap (λ n. kept (record { start = n; end = n + e.covers; line = line_with family p.line e.delta }) (ranges_behind family first (before ++ e ∷ []) es)) start
      ∙ ap (λ z. kept (record { start = covered before; end = covered before + e.covers; line = z }) (ranges_behind family first (before ++ e ∷ []) es)) (line_is family p.line before e line)

-- ---- bounds

pub delta_low : (delta : Option ℤ) → IsWithin delta → negsuc (2 ^ 35) <ℤ delta_of delta
delta_low None w = omega (arith, ints)
delta_low (Some d) w = w.0

pub delta_high : (delta : Option ℤ) → IsWithin delta → delta_of delta ≤ℤ pos (2 ^ 35)
delta_high None w = omega (arith, ints)
delta_high (Some d) w = w.1

low_moves : (left size : ℕ) (line d : ℤ) → 1 ≤ size → size ≤ left → negsuc (2 ^ 52) ≤ℤ (line -ℤ pos (2 ^ 35 * left)) → negsuc (2 ^ 35) <ℤ d → negsuc (2 ^ 52) ≤ℤ ((line +ℤ d) -ℤ pos (2 ^ 35 * (left - size)))
low_moves left size line d some room near low = omega (arith, ints)

high_moves : (left size : ℕ) (line d : ℤ) → 1 ≤ size → size ≤ left → (line +ℤ pos (2 ^ 35 * left)) ≤ℤ pos (2 ^ 52) → d ≤ℤ pos (2 ^ 35) → ((line +ℤ d) +ℤ pos (2 ^ 35 * (left - size))) ≤ℤ pos (2 ^ 52)
high_moves left size line d some room near high = omega (arith, ints)

pub nearer : (left : ℕ) (p : Place) (e : Entry) → IsNear left p → HasEntryRoom left e → IsSmall e → IsNear (left - e.size) (past p e)
nearer left p e near room small = record {
  start = omega (arith, near.start, room.begins, room.ends, small.covers);
  low = low_moves left e.size p.line (delta_of e.delta) room.begins room.ends near.low (delta_low e.delta small.delta);
  high = high_moves left e.size p.line (delta_of e.delta) room.begins room.ends near.high (delta_high e.delta small.delta);
}

pub near_still : (left : ℕ) (p : Place) → IsNear left p → IsNear 0 p
near_still left p near = record { start = omega (arith, near.start); low = omega (arith, ints, near.low); high = omega (arith, ints, near.high) }

pub near_first : (left : ℕ) (line first : ℤ) → line ≡ first → FitsSigned w32 first → left < 65536 → IsNear left (record { start = 0; line = line })
near_first left line first is fits short = record { start = omega arith; low = omega (arith, ints); high = omega (arith, ints) }

-- ---- ranges

lower : (a b : ℕ) (rs : List LineRange) → a ≤ b → AscendFrom b rs → AscendFrom a rs
lower a b [] le h = tt
lower a b (r ∷ rs) le h = (omega (arith, h.0), h.1, h.2)

kept_ascend : (at : ℕ) (r : LineRange) (rs : List LineRange) → at ≤ r.start → r.start ≤ r.end → AscendFrom r.end rs → AscendFrom at (kept r rs)
kept_ascend at r rs h le later = elim (cases_lt r.start r.end) [
  | inl lt ↦ let is : ltb r.start r.end ≡ true = grind (arith, nat_tests) in rw is (h, lt, later)
  | inr ge ↦ let is : ltb r.start r.end ≡ false = grind (arith, nat_tests) in rw is (lower at r.end rs (omega arith) later)
]

last_ascend : (at : ℕ) (r : LineRange) → at ≤ r.start → AscendFrom at (kept r [])
last_ascend at r h = elim (cases_lt r.start r.end) [
  | inl lt ↦ let is : ltb r.start r.end ≡ true = grind (arith, nat_tests) in rw is (h, lt, tt)
  | inr ge ↦ let is : ltb r.start r.end ≡ false = grind (arith, nat_tests) in rw is tt
]

pub laid_ascend : (family : LineFamily) (p : Place) (es : List Entry) → AscendFrom p.start (laid family p es)
unfolding laid
laid_ascend Pairs p [] = last_ascend p.start (record { start = p.start; end = 2 ^ 31; line = in_i32 p.line }) (omega arith)
laid_ascend Ranges p [] = tt
laid_ascend Locations p [] = tt
laid_ascend family p (e ∷ es) = kept_ascend p.start (line_range_at family p e) (laid family (past p e) es) (omega arith) (omega arith) (laid_ascend family (past p e) es)

pub kept_line : (offset : ℕ) (r : LineRange) (rs : List LineRange) → line_among (kept r rs) offset ≡ cond (holds offset r) (shown_line r.line) (line_among rs offset)
unfolding line_among
kept_line offset r rs = elim (cases_lt r.start r.end) [
  | inl lt ↦ let is : ltb r.start r.end ≡ true = grind (arith, nat_tests) in rw is refl
  | inr ge ↦
      let is : ltb r.start r.end ≡ false = grind (arith, nat_tests) in
      let not_held : holds offset r ≡ false = grind (arith, nat_tests) in
      rw (is, not_held) refl
]

-- ---- a walk

-- a walk that has come to a place, and the ranges that are ahead of it
pub record IsAhead (family : LineFamily) (rest : List ℕ) (p : Place) (ahead : List LineRange) : Type 0 where
  pub near : IsNear (length rest) p
  pub most : ℕ
  pub enough : length rest ≤ most
  pub is : laid family p (entries_within most family rest) ≡ ahead

pub walk_begins : (family : LineFamily) (line first : ℤ) (table : List ℕ) → line ≡ first → FitsSigned w32 first → length table < 65536
    → IsAhead family table (record { start = 0; line = line }) (ranges_of family first table)
unfolding ranges_of entries_of
walk_begins family line first table is fits short = record {
  near = near_first (length table) line first is fits short;
  most = length table;
  enough = omega arith;
  is = laid_is first family (record { start = 0; line = line }) [] (entries_within (length table) family table) refl (is ∙ omega (arith, ints));
}

module _ (family : LineFamily) (rest : List ℕ) (p : Place) (ahead : List LineRange) (e : Entry) where
  passes : (most : ℕ) → length rest ≤ most → laid family p (entries_within most family rest) ≡ ahead
      → IsNear (length rest) p → first_entry family rest ≡ Some e → HasEntryRoom (length rest) e → IsSmall e
      → (later : List LineRange) × (kept (line_range_at family p e) later ≡ ahead) × IsAhead family (drop e.size rest) (past p e) later
  unfolding laid
  passes zero enough is near first room small = absurd (omega (arith, room.begins, room.ends))
  passes (suc most) enough is near first room small = (
    laid family (past p e) (entries_within most family (drop e.size rest)),
    ap (laid family p) (sym (entries_next most family rest e first)) ∙ is,
    record { near = rw length-drop (nearer (length rest) p e near room small); most = most; enough = rw length-drop (omega (arith, room.begins)); is = refl },
  )

  pub walk_passes : IsAhead family rest p ahead → first_entry family rest ≡ Some e → HasEntryRoom (length rest) e → IsSmall e
      → (later : List LineRange) × (kept (line_range_at family p e) later ≡ ahead) × IsAhead family (drop e.size rest) (past p e) later
  walk_passes at first room small = passes at.most at.enough at.is at.near first room small

pub walk_ends : (family : LineFamily) (rest : List ℕ) (p : Place) (ahead : List LineRange) → IsAhead family rest p ahead → first_entry family rest ≡ None → kept_last (last_at family p) ≡ ahead
unfolding laid
walk_ends family rest p ahead at none = ap (laid family p) (sym (entries_end at.most family rest none)) ∙ at.is

-- ---- the line at an offset

-- the range that holds an offset has its line
pub held_line : (offset : ℕ) (r : LineRange) (later ahead : List LineRange) → kept r later ≡ ahead → holds offset r ≡ true → line_among ahead offset ≡ shown_line r.line
held_line offset r later ahead is held = ap (λ rs. line_among rs offset) (sym is) ∙ kept_line offset r later ∙ rw held refl

-- another has no say in it
pub passed_line : (offset : ℕ) (r : LineRange) (later ahead : List LineRange) → kept r later ≡ ahead → holds offset r ≡ false → line_among later offset ≡ line_among ahead offset
passed_line offset r later ahead is free = sym (ap (λ rs. line_among rs offset) (sym is) ∙ kept_line offset r later ∙ rw free refl)

pub no_line_left : (offset : ℕ) → line_among [] offset ≡ pos 0
unfolding line_among
no_line_left offset = refl

-- ---- the list

kept_then : (r : LineRange) (later : List LineRange) → kept r [] ++ later ≡ kept r later
kept_then r later = elim (cases_lt r.start r.end) [
  | inl lt ↦ let is : ltb r.start r.end ≡ true = grind (arith, nat_tests) in rw is refl
  | inr ge ↦ let is : ltb r.start r.end ≡ false = grind (arith, nat_tests) in rw is refl
]

-- one range more was found
pub found_more : (found found' later ahead whole : List LineRange) (r : LineRange) → found' ≡ found ++ kept r [] → kept r later ≡ ahead → found ++ ahead ≡ whole → found' ++ later ≡ whole
found_more found found' later ahead whole r more is all =
    rw more (rw append_assoc (ap (λ rs. found ++ rs) (kept_then r later ∙ is) ∙ all))

pub ranges_ascend : (family : LineFamily) (first : ℤ) (table : List ℕ) → AscendFrom 0 (ranges_of family first table)
unfolding ranges_of
ranges_ascend family first table =
    let place : Place = record { start = 0; line = first } in
    subst (λ (rs : List LineRange). AscendFrom 0 rs) (laid_is first family place [] (entries_of family table) refl (omega (arith, ints))) (laid_ascend family place (entries_of family table))
