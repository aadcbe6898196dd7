use Rattle.std.proofs.Common.{◌≡◌, ◌∙◌, ◌++◌, [], ◌+◌, ◌≤◌, List, ℕ, length, sym, ap, subst, refl, arith, rules, to_z}
use Rattle.std.proofs.Common.{of_z}
use Rattle.std.specs.Prelude.{Option, ℤ}
use Rattle.std.specs.Option.{unwrap_or}
use Rattle.std.specs.Int.{w32}
use Rattle.std.proofs.lemmas.Int.{to_z-of_z}
use Rattle.std.proofs.lemmas.List.{nil_from_length}
use Rattle.std.proofs.lemmas.Option.{MatchOption-at_none}
use Rattle.std.proofs.lemmas.Result.{err_from_is_err_and}
use Rattle.py_lines.specs.declared.lines.LineRange.{LineRange}
use Rattle.py_lines.specs.declared.runs.Run.{Run}
use Rattle.py_lines.specs.Coding.{coded, coded_behind, runs_of, runs_bytes, covered_by, delta_from, AreRuns, AreLines}
use Rattle.py_lines.specs.Coding.{IsWritable, IsRefusal}
use Rattle.py_lines.proofs.Coding.{all_stand, stands_so, writable, runs_are, coded_next, coded_none, part_within}
use Rattle.py_lines.proofs.Coding.{part_added, all_added, refusal, runs_same}
use Rattle.py_lines.proofs.Readback.{keeps_lines}
use Rattle.py_lines.proofs.encoding.encode.Goals as goal

pub loop-range-init : goal.loop-range-init
unfolding coded
loop-range-init c = record {
  short = omega (arith, ap length c.new-table.ensures.items);
  ordered = (0, sym c.first_unordered.ensures ∙ c.in_default.is);
  lines = λ h. h;
  whole = rw c.new-table.ensures.items refl;
}

pub add_runs-requires-clause-runs : goal.add_runs-requires-clause-runs
add_runs-requires-clause-runs c =
    let r = c.in-Some-split_first.range.now in
    let family = c.args.family in
    let line = to_z w32 c.loop-range.line-bits in
    let ordered = c.loop-range.invariant.ordered in
    let stand = all_stand family ordered.0 c.loop-range.rest.now r c.in-Some-split_first.later.now c.in-Some-split_first.ensures.cases.0 ordered.1 in
    let can = writable family ordered.0 c.loop-range.last line r (stands_so family ordered.0 r stand.0) in
    let len_is : covered_by family c.loop-range.last r ≡ c.covered_behind.result = sym c.covered_behind.ensures in
    let delta_is : delta_from line r.line ≡ c.delta_from-delta.result = sym c.delta_from-delta.ensures.value in
    let can_len : IsWritable family c.covered_behind.result (delta_from line r.line) = subst (λ (n : ℕ). IsWritable family n (delta_from line r.line)) len_is can in
    let can_delta : IsWritable family c.covered_behind.result c.delta_from-delta.result = subst (λ (d : Option ℤ). IsWritable family c.covered_behind.result d) delta_is can_len in
    subst (λ (rs : List Run). AreRuns family rs) (sym c.runs_of-runs.ensures)
    (runs_are family c.covered_behind.result c.delta_from-delta.result c.delta_from-delta.ensures.near can_delta)

pub returns-in_err-add_runs-clause-right : goal.returns-in_err-add_runs-clause-right
returns-in_err-add_runs-clause-right c =
    let p = err_from_is_err_and c.from_residual.result c.from_residual.ensures.1 in
    let r = c.in-Some-split_first.range.now in
    let later = c.in-Some-split_first.later.now in
    let family = c.args.family in
    let line = to_z w32 c.loop-range.line-bits in
    let table = c.loop-range.table.items in
    let b = runs_bytes family c.runs_of-runs.result in
    let written : b ≡ runs_bytes family (runs_of family (covered_by family c.loop-range.last r) (delta_from line r.line)) =
    ap (runs_bytes family) (c.runs_of-runs.ensures ∙ runs_same family _ _ _ _ c.covered_behind.ensures c.delta_from-delta.ensures.value) in
    let left = coded_behind family r.start (unwrap_or r.line line) later in
    let next : b ++ left ≡ coded_behind family c.loop-range.last line c.loop-range.rest.now =
    ap (λ bs. bs ++ left) written ∙ sym (coded_next family c.loop-range.last line c.loop-range.rest.now r later c.in-Some-split_first.ensures.cases.0) in
    let first_is = to_z-of_z w32 c.args.first c.ranges.first in
    let whole : table ++ (b ++ left) ≡ [] ++ coded family c.args.first c.args.ranges.now =
    ap (λ bs. table ++ bs) next ∙ c.loop-range.invariant.whole ∙ ap (λ z. coded family z c.args.ranges.now) first_is in
    let within : length table + length b ≤ 0 + length (coded family c.args.first c.args.ranges.now) = part_within table [] b left (coded family c.args.first c.args.ranges.now) whole in
    let ordered = sym c.first_unordered.ensures ∙ c.in_default.is in
    rw p.1 (subst (λ e. IsRefusal family c.args.first c.args.ranges.now e) (sym p.2)
    (refusal family c.args.first c.args.ranges.now c.in_err-add_runs.field-0.0 _ ordered (omega (arith, within)) c.in_err-add_runs.ensures.refused))

pub loop-range-preserved : goal.loop-range-preserved
loop-range-preserved c =
    let r = c.in-Some-split_first.range.now in
    let later = c.in-Some-split_first.later.now in
    let split = c.in-Some-split_first.ensures.cases.0 in
    let family = c.args.family in
    let line = to_z w32 c.loop-range.line-bits in
    let table = c.loop-range.table.items in
    let b = runs_bytes family c.runs_of-runs.result in
    let written : b ≡ runs_bytes family (runs_of family (covered_by family c.loop-range.last r) (delta_from line r.line)) =
    ap (runs_bytes family) (c.runs_of-runs.ensures ∙ runs_same family _ _ _ _ c.covered_behind.ensures c.delta_from-delta.ensures.value) in
    let left = coded_behind family r.start (unwrap_or r.line line) later in
    let next : b ++ left ≡ coded_behind family c.loop-range.last line c.loop-range.rest.now =
    ap (λ bs. bs ++ left) written ∙ sym (coded_next family c.loop-range.last line c.loop-range.rest.now r later split) in
    let all = coded family (to_z w32 (of_z w32 c.args.first)) c.args.ranges.now in
    let whole : table ++ (b ++ left) ≡ [] ++ all = ap (λ bs. table ++ bs) next ∙ c.loop-range.invariant.whole in
    let line_is : unwrap_or r.line line ≡ to_z w32 (of_z w32 c.unwrap_or-line.result) =
    sym (to_z-of_z w32 c.unwrap_or-line.result (search rules) ∙ c.unwrap_or-line.ensures) in
    let ordered = c.loop-range.invariant.ordered in
    let stand = all_stand family ordered.0 c.loop-range.rest.now r later split ordered.1 in
    record {
      short = c.in_ok-add_runs.ensures.short;
      ordered = (r.end, stand.1);
      lines = λ (h : AreLines later). c.loop-range.invariant.lines (subst (λ (rs : List LineRange). AreLines rs) (sym split) (c.delta_from-delta.ensures.fits, h));
      whole = ap (λ z. c.add_runs.new.table.items ++ coded_behind family r.start z later) (sym line_is)
          ∙ part_added table [] b left all whole c.add_runs.new.table.items c.in_ok-add_runs.ensures.added;
    }

pub returns-clause-right : goal.returns-clause-right
returns-clause-right c =
    let table = c.loop-range.table.items in
    let family = c.args.family in
    let nil = nil_from_length c.loop-range.rest.now (MatchOption-at_none _ _ c.in_default-split_first.is c.split_first.ensures.cases) in
    let none = coded_none family c.loop-range.last (to_z w32 c.loop-range.line-bits) c.loop-range.rest.now nil in
    let all = coded family (to_z w32 (of_z w32 c.args.first)) c.args.ranges.now in
    let bytes : table ≡ all = all_added table [] all (ap (λ bs. table ++ bs) (sym none) ∙ c.loop-range.invariant.whole) in
    record {
      ordered = sym c.first_unordered.ensures ∙ c.in_default.is;
      bytes = bytes ∙ ap (λ z. coded family z c.args.ranges.now) (to_z-of_z w32 c.args.first c.ranges.first);
      short = c.loop-range.invariant.short;
    }

pub returns-clause-lines : goal.returns-clause-lines
returns-clause-lines c =
    let nil = nil_from_length c.loop-range.rest.now (MatchOption-at_none _ _ c.in_default-split_first.is c.split_first.ensures.cases) in
    let lines : AreLines c.args.ranges.now = c.loop-range.invariant.lines (subst (λ (rs : List LineRange). AreLines rs) (sym nil) tt) in
    keeps_lines c.args.family c.args.first c.args.ranges.now c.loop-range.table.items c.ranges.first lines (returns-clause-right c)
