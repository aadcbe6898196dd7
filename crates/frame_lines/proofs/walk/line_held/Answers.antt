use Rattle.std.proofs.Common.{◌∙◌, length, ap, sym, rules}
use Rattle.std.specs.Int.{w32, w64}
use Rattle.std.proofs.lemmas.Int.{to_z-of_z}
use Rattle.std.proofs.lemmas.List.{take_rest}
use Rattle.py_lines.specs.Lines.{shown_line}
use Rattle.frame_lines.specs.Walks.{line_held}
use Rattle.frame_lines.proofs.Ahead.{ahead_there, near_still, walk_begins, walk_ends, walk_held, walk_passes}
use Rattle.frame_lines.proofs.walk.line_held.Goals as goal

pub loop-entry-init : goal.loop-entry-init
loop-entry-init c =
    let line_is = to_z-of_z w64 c.from.result (search rules) ∙ c.from.ensures in
    let ahead = walk_begins c.args.form _ _ c.args.table.now c.args.offset line_is (search rules) c.requires.short in
    record { near = near_still (length c.args.table.now) _ ahead.near; ahead = ahead }

pub returns-then-holds : goal.returns-then-holds
returns-then-holds c =
    let held = walk_held c.args.form c.loop-entry.rest.now c.loop-entry.place c.args.offset _ c.in-Some.entry
    c.loop-entry.invariant.ahead (sym c.first_entry.ensures.value ∙ c.in-Some.is) c.in-Some.ensures.size
    (sym c.holds.ensures ∙ c.if-holds.true) in
    to_z-of_z w32 c.unwrap_or.result (search rules)
    ∙ c.unwrap_or.ensures
    ∙ ap shown_line c.line_under.ensures
    ∙ held
    ∙ ap (λ z. line_held c.args.form z c.args.table.now c.args.offset) (to_z-of_z w32 c.args.first c.ranges.first)

pub loop-entry-preserved : goal.loop-entry-preserved
loop-entry-preserved c =
    let rest = c.loop-entry.rest.now in
    let entry = c.in-Some.entry in
    let passed = walk_passes c.args.form rest c.loop-entry.place c.args.offset _ entry c.loop-entry.invariant.ahead
    (sym c.first_entry.ensures.value ∙ c.in-Some.is) c.in-Some.ensures.size c.in-Some.ensures.small
    (sym c.holds.ensures ∙ c.if-holds.false) in
    let ahead = ahead_there passed c.past-place.ensures (take_rest rest entry.size) in
    record { near = near_still _ c.past-place.result ahead.near; ahead = ahead }

pub returns : goal.returns
returns c =
    to_z-of_z w32 c.last_line.result (search rules)
    ∙ c.last_line.ensures
    ∙ walk_ends c.args.form c.loop-entry.rest.now c.loop-entry.place c.args.offset _ c.loop-entry.invariant.ahead
    (sym c.first_entry.ensures.value ∙ c.in_default.is)
    ∙ ap (λ z. line_held c.args.form z c.args.table.now c.args.offset) (to_z-of_z w32 c.args.first c.ranges.first)
