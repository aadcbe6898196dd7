use Rattle.std.proofs.Common.{◌≡◌, ◌++◌, [], ap, sym, ◌∙◌}
use Rattle.std.specs.List.{cons_option}
use Rattle.std.proofs.lemmas.List.{append-nil}
use Rattle.piece_table.specs.declared.overlay.Owned.{Owned}
use Rattle.piece_table.proofs.Laid.{last_part}
use Rattle.piece_table.proofs.overlay.add_between.Goals as goal
use Rattle.piece_table.proofs.overlay.add_between.Goals.{in-Some+in_ok-push, in_default}

pub returns-then-piece-gap-clause-made : goal.returns-then-piece-gap-clause-made
returns-then-piece-gap-clause-made c =
    let gap = c.args.gap in
    let d : Owned = record { entry = record { start = 0; len = 0; offset = 0 }; owner = 0 } in
    let pushed : c.match-part_between.made.items ≡ c.loop-number.made.items ++ cons_option c.part_between.result [] =
    elim c.match-part_between.branch [
      | in-Some+in_ok-push w ↦ ap (λ v. v.items) w.made-is ∙ w.in_ok-push.ensures.items ∙ ap (λ o. c.loop-number.made.items ++ cons_option o []) (sym w.in-Some.is)
      | in_default w ↦ ap (λ v. v.items) w.made-is ∙ sym (append-nil c.loop-number.made.items) ∙ ap (λ o. c.loop-number.made.items ++ cons_option o []) (sym w.in_default.is)
    ] in
    last_part c.loop-number.made.items _ _ gap.low gap.high gap.shift 0 c.loop-number.number c.args.under.now d c.part_between.result
    c.loop-number-test.true c.requires.rise c.if-piece-gap.true c.part_between.ensures c.loop-number.invariant.made pushed
