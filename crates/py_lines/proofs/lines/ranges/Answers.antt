use Rattle.std.proofs.Common.{◌≡◌, ◌∙◌, ◌++◌, ℕ, List, [], length, drop, ap, sym, subst, rules, to_z, of_z}
use Rattle.std.proofs.lemmas.List.{append-nil}
use Rattle.std.specs.Prelude.{Some, None}
use Rattle.std.specs.Int.{w32, w64}
use Rattle.std.proofs.lemmas.Int.{to_z-of_z}
use Rattle.std.proofs.lemmas.List.{take_rest}
use Rattle.py_lines.specs.declared.lines.LineRange.{LineRange}
use Rattle.py_lines.specs.declared.lines.Place.{Place}
use Rattle.py_lines.specs.Entries.{first_entry}
use Rattle.py_lines.specs.Lines.{ranges_of, kept, AscendFrom}
use Rattle.py_lines.specs.Places.{line_range_at, kept_last}
use Rattle.py_lines.proofs.Places.{IsAhead, walk_begins, walk_passes, walk_ends, near_still, found_more, ranges_ascend}
use Rattle.py_lines.proofs.lines.ranges.Goals as goal
use Rattle.py_lines.proofs.lines.ranges.Goals.{in-Some-last+in_ok-keep-2, in_default-last}

pub loop-entry-init : goal.loop-entry-init
loop-entry-init c =
    let line_is = to_z-of_z w64 c.from.result (search rules) ∙ c.from.ensures in
    let ahead = walk_begins c.args.family _ _ c.args.table.now line_is (search rules) c.requires.short in
    record { near = near_still (length c.args.table.now) _ ahead.near; walk = (ranges_of c.args.family (to_z w32 (of_z w32 c.args.first)) c.args.table.now, ap (λ found. found ++ ranges_of c.args.family (to_z w32 (of_z w32 c.args.first)) c.args.table.now) c.new-found.ensures.items, ahead) }

pub loop-entry-preserved : goal.loop-entry-preserved
loop-entry-preserved c =
    let place = c.loop-entry.place in
    let rest = c.loop-entry.rest.now in
    let entry = c.in-Some.entry in
    let walk = c.loop-entry.invariant.walk in
    let first : first_entry c.args.family rest ≡ Some entry = sym c.first_entry.ensures.value ∙ c.in-Some.is in
    let passed = walk_passes c.args.family rest place walk.0 entry walk.2 first c.in-Some.ensures.size c.in-Some.ensures.small in
    let here = line_range_at c.args.family place entry in
    let more : c.keep.new.found.items ≡ c.loop-entry.found.items ++ kept here [] = c.in_ok-keep.ensures ∙ ap (λ r. c.loop-entry.found.items ++ kept r []) c.range_under.ensures in
    let ahead : IsAhead c.args.family (drop entry.size rest) c.past-place.result passed.0 = subst (λ (p : Place). IsAhead c.args.family (drop entry.size rest) p passed.0) (sym c.past-place.ensures) passed.2 in
    record {
      near = near_still (length (drop entry.size rest)) c.past-place.result ahead.near;
      walk = (passed.0, found_more c.loop-entry.found.items c.keep.new.found.items passed.0 walk.0 _ here more passed.1 walk.1, subst (λ (left : List ℕ). IsAhead c.args.family left c.past-place.result passed.0) (sym (take_rest rest entry.size)) ahead);
    }

pub returns-clause-ranges : goal.returns-clause-ranges
returns-clause-ranges c =
    let place = c.loop-entry.place in
    let walk = c.loop-entry.invariant.walk in
    let first_is = ap (λ z. ranges_of c.args.family z c.args.table.now) (to_z-of_z w32 c.args.first c.ranges.first) in
    let none : first_entry c.args.family c.loop-entry.rest.now ≡ None = sym c.first_entry.ensures.value ∙ c.in_default.is in
    let ends = walk_ends c.args.family c.loop-entry.rest.now place walk.0 walk.2 none in
    let found = c.loop-entry.found.items in
    elim c.match-last.branch [
      | in-Some-last+in_ok-keep-2 w ↦
          ap (λ v. v.items) w.found-is
          ∙ w.in_ok-keep-2.ensures
          ∙ ap (λ rs. found ++ rs) (ap kept_last (sym (sym c.last.ensures ∙ w.in-Some-last.is)) ∙ ends)
          ∙ walk.1
          ∙ first_is
      | in_default-last w ↦
          ap (λ v. v.items) w.found-is
          ∙ sym (append-nil found)
          ∙ ap (λ rs. found ++ rs) (ap kept_last (sym (sym c.last.ensures ∙ w.in_default-last.is)) ∙ ends)
          ∙ walk.1
          ∙ first_is
    ]

pub returns-clause-ascend : goal.returns-clause-ascend
returns-clause-ascend c = subst (λ (rs : List LineRange). AscendFrom 0 rs) (sym (returns-clause-ranges c)) (ranges_ascend c.args.family c.args.first c.args.table.now)
