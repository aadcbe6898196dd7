-- A walk over a table, entry by entry.
use Rattle.std.proofs.Common.{◌≡◌, ℕ, zero, suc, ◌-◌, ◌*◌, ◌^◌, ◌<◌, ◌≤◌, List, [], ◌∷◌, length, drop, refl}
use Rattle.std.proofs.Common.{sym, subst, ap, ◌∙◌, arith, false, true}
use Rattle.std.specs.Prelude.{Option, Some, None, ℤ, pos, negsuc, ◌+ℤ◌, ◌-ℤ◌, ◌≤ℤ◌, ◌<ℤ◌}
use Rattle.std.specs.Option.{unwrap_or}
use Rattle.std.specs.Int.{w32}
use Rattle.std.specs.Int.RustNames.{FitsSigned}
use Rattle.std.proofs.lemmas.Int.{ints}
use Rattle.std.proofs.lemmas.List.{length-drop}
use Rattle.py_lines.specs.Lines.{shown_line}
use Rattle.frame_lines.specs.declared.entry.Entry.{Entry}
use Rattle.frame_lines.specs.declared.form.TableForm.{TableForm}
use Rattle.frame_lines.specs.declared.walk.Place.{Place}
use Rattle.frame_lines.specs.Entries.{HasRoom, IsSmall, IsStep, entries_of, entries_within, first_entry}
use Rattle.frame_lines.specs.Walks.{IsNear, last_line, lies_in, line_from, line_held, line_under, past, place}

-- ---- bounds

step_low : (delta : Option ℤ) → IsStep delta → negsuc (2 ^ 35) <ℤ unwrap_or delta (pos 0)
step_low None w = omega (arith, ints)
step_low (Some d) w = w.0

step_high : (delta : Option ℤ) → IsStep delta → unwrap_or delta (pos 0) ≤ℤ pos (2 ^ 35)
step_high None w = omega (arith, ints)
step_high (Some d) w = w.1

low_moves : (left size : ℕ) (line d : ℤ) → 1 ≤ size → size ≤ left → negsuc (2 ^ 60) ≤ℤ (line -ℤ pos (2 ^ 35 * left))
    → negsuc (2 ^ 35) <ℤ d → negsuc (2 ^ 60) ≤ℤ ((line +ℤ d) -ℤ pos (2 ^ 35 * (left - size)))
low_moves left size line d some room near low = omega (arith, ints)

high_moves : (left size : ℕ) (line d : ℤ) → 1 ≤ size → size ≤ left → (line +ℤ pos (2 ^ 35 * left)) ≤ℤ pos (2 ^ 60)
    → d ≤ℤ pos (2 ^ 35) → ((line +ℤ d) +ℤ pos (2 ^ 35 * (left - size))) ≤ℤ pos (2 ^ 60)
high_moves left size line d some room near high = omega (arith, ints)

nearer : (left : ℕ) (p : Place) (e : Entry) → IsNear left p → HasRoom left e → IsSmall e
    → IsNear (left - e.size) (past p e)
nearer left p e near room small = record {
  start = omega (arith, near.start, room.begins, room.ends, small.covers);
  low = low_moves left e.size p.line (unwrap_or e.delta (pos 0)) room.begins room.ends near.low
      (step_low e.delta small.delta);
  high = high_moves left e.size p.line (unwrap_or e.delta (pos 0)) room.begins room.ends near.high
      (step_high e.delta small.delta);
}

pub near_still : (left : ℕ) (p : Place) → IsNear left p → IsNear 0 p
near_still left p near = record {
  start = omega (arith, near.start);
  low = omega (arith, ints, near.low);
  high = omega (arith, ints, near.high);
}

near_first : (left : ℕ) (line first : ℤ) → line ≡ first → FitsSigned w32 first → left < 2 ^ 24
    → IsNear left (place 0 line)
near_first left line first is fits short =
    record { start = omega arith; low = omega (arith, ints); high = omega (arith, ints) }

-- ---- a walk

-- a walk that has come to a place, from where on the line at an offset is this
pub record IsAhead (form : TableForm) (rest : List ℕ) (p : Place) (offset : ℕ) (line : ℤ) : Type 0 where
  pub near : IsNear (length rest) p
  pub most : ℕ
  pub enough : length rest ≤ most
  pub is : line_from form p (entries_within most form rest) offset ≡ line

pub walk_begins : (form : TableForm) (line first : ℤ) (table : List ℕ) (offset : ℕ) → line ≡ first
    → FitsSigned w32 first → length table < 2 ^ 24
    → IsAhead form table (place 0 line) offset (line_held form first table offset)
unfolding line_held entries_of
walk_begins form line first table offset is fits short = record {
  near = near_first (length table) line first is fits short;
  most = length table;
  enough = omega arith;
  is = ap (λ z. line_from form (place 0 z) (entries_within (length table) form table) offset) is;
}

entries_end : (n : ℕ) (form : TableForm) (table : List ℕ) → first_entry form table ≡ None
    → entries_within n form table ≡ []
unfolding entries_within
entries_end zero form table e = refl
entries_end (suc n) form table e = rw e refl

entries_next : (n : ℕ) (form : TableForm) (table : List ℕ) (e : Entry) → first_entry form table ≡ Some e
    → entries_within (suc n) form table ≡ e ∷ entries_within n form (drop e.size table)
unfolding entries_within
entries_next n form table e is = rw is refl

from_held : (form : TableForm) (p : Place) (e : Entry) (es : List Entry) (offset : ℕ)
    → lies_in offset p.start e.covers ≡ true
    → line_from form p (e ∷ es) offset ≡ shown_line (line_under form p.line e.delta)
unfolding line_from
from_held form p e es offset held = rw held refl

from_passed : (form : TableForm) (p : Place) (e : Entry) (es : List Entry) (offset : ℕ)
    → lies_in offset p.start e.covers ≡ false → line_from form p (e ∷ es) offset ≡ line_from form (past p e) es offset
unfolding line_from
from_passed form p e es offset free = rw free refl

module _ (form : TableForm) (rest : List ℕ) (p : Place) (offset : ℕ) (line : ℤ) (e : Entry) where
  held : (most : ℕ) → length rest ≤ most → line_from form p (entries_within most form rest) offset ≡ line
      → first_entry form rest ≡ Some e → HasRoom (length rest) e
      → lies_in offset p.start e.covers ≡ true → shown_line (line_under form p.line e.delta) ≡ line
  held zero enough is first room lies = absurd (omega (arith, room.begins, room.ends))
  held (suc most) enough is first room lies =
      sym (from_held form p e (entries_within most form (drop e.size rest)) offset lies)
      ∙ ap (λ es. line_from form p es offset) (sym (entries_next most form rest e first)) ∙ is

  pub walk_held : IsAhead form rest p offset line → first_entry form rest ≡ Some e → HasRoom (length rest) e
      → lies_in offset p.start e.covers ≡ true
      → shown_line (line_under form p.line e.delta) ≡ line
  walk_held at first room lies = held at.most at.enough at.is first room lies

  passes : (most : ℕ) → length rest ≤ most → line_from form p (entries_within most form rest) offset ≡ line
      → IsNear (length rest) p → first_entry form rest ≡ Some e
      → HasRoom (length rest) e → IsSmall e → lies_in offset p.start e.covers ≡ false
      → IsAhead form (drop e.size rest) (past p e) offset line
  passes zero enough is near first room small free = absurd (omega (arith, room.begins, room.ends))
  passes (suc most) enough is near first room small free = record {
    near = rw length-drop (nearer (length rest) p e near room small);
    most = most;
    enough = rw length-drop (omega (arith, room.begins));
    is = sym (from_passed form p e (entries_within most form (drop e.size rest)) offset free)
        ∙ ap (λ es. line_from form p es offset) (sym (entries_next most form rest e first)) ∙ is;
  }

  pub walk_passes : IsAhead form rest p offset line → first_entry form rest ≡ Some e → HasRoom (length rest) e
      → IsSmall e → lies_in offset p.start e.covers ≡ false
      → IsAhead form (drop e.size rest) (past p e) offset line
  walk_passes at first room small free = passes at.most at.enough at.is at.near first room small free

pub walk_ends : (form : TableForm) (rest : List ℕ) (p : Place) (offset : ℕ) (line : ℤ) → IsAhead form rest p offset line
    → first_entry form rest ≡ None → last_line form p offset ≡ line
unfolding line_from
walk_ends form rest p offset line at none =
    ap (λ es. line_from form p es offset) (sym (entries_end at.most form rest none)) ∙ at.is

-- the same walk, by what stands there
pub ahead_there : {form : TableForm} {rest rest' : List ℕ} {p p' : Place} {offset : ℕ} {line : ℤ}
    → IsAhead form rest p offset line → p' ≡ p → rest' ≡ rest → IsAhead form rest' p' offset line
ahead_there {form} {rest} {rest'} {p} {p'} {offset} {line} at place_is rest_is =
    subst (λ (q : Place). IsAhead form rest' q offset line) (sym place_is)
    (subst (λ (left : List ℕ). IsAhead form left p offset line) (sym rest_is) at)
