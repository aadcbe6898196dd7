use Rattle.std.proofs.Common.{◌++◌, ◌∷◌, ◌+◌, ◌^◌, ◌-◌, [], drop, get_or, ap, sym, ◌∙◌, arith}
use Rattle.piece_table.specs.declared.overlay.Owned.{Owned}
use Rattle.piece_table.specs.Laid.{piece_end, overlaid}
use Rattle.std.proofs.lemmas.List.{drop_all}
use Rattle.piece_table.proofs.Laid.{AreBelow-wider, Rises-at, overlaid_more, parts_gone, room_at}
use Rattle.piece_table.proofs.overlay.overlay.Goals as goal

pub loop-top-preserved : goal.loop-top-preserved
loop-top-preserved c =
    let d : Owned = record { entry = record { start = 0; len = 0; offset = 0 }; owner = 0 } in
    let i = c.loop-top.invariant in
    let top = get_or c.args.over.now c.loop-top.top-index d in
    let rise = Rises-at c.loop-top.low c.loop-top.top-index c.args.over.now d c.loop-top-test.true i.rise in
    let pushed = c.in_ok-push.ensures.items ∙ ap (λ items. items ++ top ∷ []) c.in_ok-next.ensures.made in
    record {
      made = ap (λ items. items ++ overlaid c.args.shift (piece_end top) (drop (c.loop-top.top-index + 1) c.args.over.now) c.args.under.now) pushed
          ∙ overlaid_more c.loop-top.made.items c.args.under.now c.args.over.now c.args.shift c.loop-top.low c.loop-top.next c.loop-top.top-index d _ c.loop-top-test.true i.below i.made;
      below = AreBelow-wider top.entry.start (piece_end top) _ c.in_ok-next.ensures.below (omega arith);
      rise = rise.1;
      ends = (room_at 0 c.loop-top.top-index c.args.over.now d c.requires.ends c.loop-top-test.true).ends;
    }

pub returns : goal.returns
returns c =
    let i = c.loop-top.invariant in
    let none = drop_all c.loop-top.top-index c.args.over.now (omega arith) in
    c.in_ok-add_between.ensures.made
    ∙ ap (λ ps. c.loop-top.made.items ++ ps) (parts_gone c.loop-top.low (2 ^ 64 - 1) c.args.shift c.loop-top.next c.args.under.now i.below)
    ∙ ap (λ ps. c.loop-top.made.items ++ overlaid c.args.shift c.loop-top.low ps c.args.under.now) (sym none) ∙ i.made
