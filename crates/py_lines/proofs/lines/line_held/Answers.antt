use Rattle.std.proofs.Common.{◌≡◌, ◌∙◌, ℕ, List, [], length, drop, ap, sym, subst, rules, true, false, refl}
use Rattle.std.specs.Prelude.{Some, None, pos}
use Rattle.std.specs.Option.{unwrap_or}
use Rattle.std.specs.Int.{w32, w64}
use Rattle.std.proofs.lemmas.Int.{to_z-of_z}
use Rattle.std.proofs.lemmas.List.{take_rest}
use Rattle.py_lines.specs.declared.lines.Place.{Place}
use Rattle.py_lines.specs.Entries.{first_entry}
use Rattle.py_lines.specs.Lines.{ranges_of, line_among, holds}
use Rattle.py_lines.specs.Places.{line_range_at, last_at, kept_last}
use Rattle.py_lines.proofs.Places.{IsAhead, walk_begins, walk_passes, walk_ends, near_still, held_line, passed_line}
use Rattle.py_lines.proofs.Places.{no_line_left}
use Rattle.py_lines.proofs.lines.line_held.Goals as goal

pub loop-entry-init : goal.loop-entry-init
loop-entry-init c =
    let line_is = to_z-of_z w64 c.from.result (search rules) ∙ c.from.ensures in
    let ahead = walk_begins c.args.family _ _ c.args.table.now line_is (search rules) c.requires.short in
    record { near = near_still (length c.args.table.now) _ ahead.near; walk = (_, refl, ahead) }

pub returns-then-holds : goal.returns-then-holds
returns-then-holds c =
    let place = c.loop-entry.place in
    let walk = c.loop-entry.invariant.walk in
    let first : first_entry c.args.family c.loop-entry.rest.now ≡ Some c.in-Some.entry = sym c.first_entry.ensures.value ∙ c.in-Some.is in
    let passed = walk_passes c.args.family c.loop-entry.rest.now place walk.0 c.in-Some.entry walk.2 first c.in-Some.ensures.size c.in-Some.ensures.small in
    let here = line_range_at c.args.family place c.in-Some.entry in
    let held : holds c.args.offset here ≡ true = ap (holds c.args.offset) (sym c.range_under-range.ensures) ∙ sym c.holds.ensures ∙ c.if-holds.true in
    to_z-of_z w32 c.unwrap_or.result (search rules)
    ∙ c.unwrap_or.ensures
    ∙ ap (λ r. unwrap_or r.line (pos 0)) c.range_under-range.ensures
    ∙ sym (held_line c.args.offset here passed.0 walk.0 passed.1 held)
    ∙ walk.1
    ∙ ap (λ z. line_among (ranges_of c.args.family z c.args.table.now) c.args.offset) (to_z-of_z w32 c.args.first c.ranges.first)

pub loop-entry-preserved : goal.loop-entry-preserved
loop-entry-preserved c =
    let place = c.loop-entry.place in
    let rest = c.loop-entry.rest.now in
    let entry = c.in-Some.entry in
    let walk = c.loop-entry.invariant.walk in
    let first : first_entry c.args.family rest ≡ Some entry = sym c.first_entry.ensures.value ∙ c.in-Some.is in
    let passed = walk_passes c.args.family rest place walk.0 entry walk.2 first c.in-Some.ensures.size c.in-Some.ensures.small in
    let here = line_range_at c.args.family place entry in
    let free : holds c.args.offset here ≡ false = ap (holds c.args.offset) (sym c.range_under-range.ensures) ∙ sym c.holds.ensures ∙ c.if-holds.false in
    let ahead : IsAhead c.args.family (drop entry.size rest) c.past-place.result passed.0 = subst (λ (p : Place). IsAhead c.args.family (drop entry.size rest) p passed.0) (sym c.past-place.ensures) passed.2 in
    record {
      near = near_still (length (drop entry.size rest)) c.past-place.result ahead.near;
      walk = (passed.0, passed_line c.args.offset here passed.0 walk.0 passed.1 free ∙ walk.1, subst (λ (left : List ℕ). IsAhead c.args.family left c.past-place.result passed.0) (sym (take_rest rest entry.size)) ahead);
    }

pub returns-in-Some-last : goal.returns-in-Some-last
returns-in-Some-last c =
    let place = c.loop-entry.place in
    let walk = c.loop-entry.invariant.walk in
    let none : first_entry c.args.family c.loop-entry.rest.now ≡ None = sym c.first_entry.ensures.value ∙ c.in_default.is in
    let last : last_at c.args.family place ≡ Some c.in-Some-last.range = sym c.last.ensures ∙ c.in-Some-last.is in
    let is = ap kept_last (sym last) ∙ walk_ends c.args.family c.loop-entry.rest.now place walk.0 walk.2 none in
    let held : holds c.args.offset c.in-Some-last.range ≡ true = sym c.if-holds-2.ensures in
    to_z-of_z w32 c.unwrap_or-in-Some-last.result (search rules)
    ∙ c.unwrap_or-in-Some-last.ensures
    ∙ sym (held_line c.args.offset c.in-Some-last.range [] walk.0 is held)
    ∙ walk.1
    ∙ ap (λ z. line_among (ranges_of c.args.family z c.args.table.now) c.args.offset) (to_z-of_z w32 c.args.first c.ranges.first)

pub returns-in_default-last : goal.returns-in_default-last
returns-in_default-last c =
    let place = c.loop-entry.place in
    let walk = c.loop-entry.invariant.walk in
    let none : first_entry c.args.family c.loop-entry.rest.now ≡ None = sym c.first_entry.ensures.value ∙ c.in_default.is in
    let last : last_at c.args.family place ≡ Some c.in-Some-last.range = sym c.last.ensures ∙ c.in-Some-last.is in
    let is = ap kept_last (sym last) ∙ walk_ends c.args.family c.loop-entry.rest.now place walk.0 walk.2 none in
    let free : holds c.args.offset c.in-Some-last.range ≡ false = sym c.if-holds-2.ensures in
    sym (no_line_left c.args.offset)
    ∙ passed_line c.args.offset c.in-Some-last.range [] walk.0 is free
    ∙ walk.1
    ∙ ap (λ z. line_among (ranges_of c.args.family z c.args.table.now) c.args.offset) (to_z-of_z w32 c.args.first c.ranges.first)

pub returns-in_default-last-2 : goal.returns-in_default-last-2
returns-in_default-last-2 c =
    let place = c.loop-entry.place in
    let walk = c.loop-entry.invariant.walk in
    let none : first_entry c.args.family c.loop-entry.rest.now ≡ None = sym c.first_entry.ensures.value ∙ c.in_default.is in
    let last : last_at c.args.family place ≡ None = sym c.last.ensures ∙ c.in_default-last.is in
    let is : [] ≡ walk.0 = ap kept_last (sym last) ∙ walk_ends c.args.family c.loop-entry.rest.now place walk.0 walk.2 none in
    sym (no_line_left c.args.offset)
    ∙ ap (λ rs. line_among rs c.args.offset) is
    ∙ walk.1
    ∙ ap (λ z. line_among (ranges_of c.args.family z c.args.table.now) c.args.offset) (to_z-of_z w32 c.args.first c.ranges.first)
