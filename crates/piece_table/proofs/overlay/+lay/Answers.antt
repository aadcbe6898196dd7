use Rattle.std.proofs.Common.{◌≡◌, ◌++◌, ap, sym, subst, ◌∙◌, arith, length}
use Rattle.std.specs.Prelude.{All}
use Rattle.std.proofs.lemmas.List.Elements.{All-drop, All-take}
use Rattle.std.proofs.lemmas.Result.{IfOk-weaker}
use Rattle.piece_table.specs.Overlays.{IsBoundedRange}
use Rattle.piece_table.specs.Laid.{AreLaid, HaveRoom, overlaid}
use Rattle.piece_table.proofs.Overlays.{AreLaid-joined, pieces_room, split_whole}
use Rattle.piece_table.proofs.overlay.+lay.Goals as goal

pub overlay-requires-clause-room : goal.overlay-requires-clause-room
overlay-requires-clause-room t c =
    let back = c.split_at.result.1.now in
    let count = c.split_at.ensures.back_len in
    let front_count = c.split_at.ensures.front_len in
    let fits = subst (All IsBoundedRange) (sym c.split_at.ensures.back) (All-drop IsBoundedRange _ c.args.ranges.now c.requires) in
    subst (HaveRoom (length c.split_at.result.0.now)) (sym c.deref-in_default.ensures.value)
    (pieces_room back (length c.split_at.result.0.now) c.in_ok-under-in_default.under.items fits (omega (arith, count)) c.in_ok-under-in_default.ensures.each)

pub overlay-requires-clause-ends : goal.overlay-requires-clause-ends
overlay-requires-clause-ends t c =
    let front = c.split_at.result.0.now in
    let count = c.split_at.ensures.back_len in
    let front_count = c.split_at.ensures.front_len in
    let fits = subst (All IsBoundedRange) (sym c.split_at.ensures.front) (All-take IsBoundedRange _ c.args.ranges.now c.requires) in
    subst (HaveRoom 0) (sym c.deref.ensures.value) (pieces_room front 0 c.in_ok-over-in_default.over.items fits (omega (arith, count)) c.in_ok-over-in_default.ensures.each)

pub returns-in_ok-under-in_default : goal.returns-in_ok-under-in_default
returns-in_ok-under-in_default t c =
    let front = c.split_at.result.0.now in
    let back = c.split_at.result.1.now in
    let over = c.in_ok-over-in_default.over.items in
    let under = c.in_ok-under-in_default.under.items in
    let count = c.split_at.ensures.back_len in
    let front_count = c.split_at.ensures.front_len in
    let fits = subst (All IsBoundedRange) (sym c.split_at.ensures.back) (All-drop IsBoundedRange _ c.args.ranges.now c.requires) in
    let laid = AreLaid-joined front back over under fits (omega (arith, count)) c.in_ok-over-in_default.ensures c.in_ok-under-in_default.ensures in
    let whole = split_whole _ c.args.ranges.now front back c.split_at.ensures.front c.split_at.ensures.back in
    let same = ap (λ ps. overlaid (length front) 0 ps c.deref-in_default.result.now) c.deref.ensures.value
    ∙ ap (λ ps. overlaid (length front) 0 over ps) c.deref-in_default.ensures.value in
    IfOk-weaker c.overlay.result (λ made. made.items ≡ overlaid (length front) 0 c.deref.result.now c.deref-in_default.result.now)
    (λ made. AreLaid c.args.ranges.now made.items)
    (λ made is. subst (λ rs. AreLaid rs made.items) whole (subst (AreLaid (front ++ back)) (sym (is ∙ same)) laid)) c.overlay.ensures
