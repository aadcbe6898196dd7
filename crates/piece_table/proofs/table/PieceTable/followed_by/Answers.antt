use Rattle.std.proofs.Common.{◌≡◌, ◌++◌, length, sym, subst, ap, ◌∙◌, arith}
use Rattle.std.specs.Prelude.{All}
use Rattle.std.proofs.lemmas.List.{length-map, map-append}
use Rattle.piece_table.specs.Laid.{AreLaid, HaveRoom, overlaid}
use Rattle.piece_table.specs.Overlays.{IsBoundedRange}
use Rattle.piece_table.specs.Places.{addresses_of, range_of_file}
use Rattle.piece_table.proofs.Overlays.{AreLaid-joined, pieces_room}
use Rattle.piece_table.proofs.Tables.{addresses_fit}
use Rattle.piece_table.proofs.table.PieceTable.followed_by.Goals as goal

pub lay-requires : goal.lay-requires
lay-requires c =
    subst (All IsBoundedRange) (sym (c.deref.ensures.value ∙ c.in_ok-addresses.ensures)) (addresses_fit c.args.others.now c.requires)

pub overlay-requires-clause-room : goal.overlay-requires-clause-room
overlay-requires-clause-room c =
    let others = addresses_of c.args.others.now in
    let laid = subst (λ rs. AreLaid rs c.in_ok-under.under.items) (c.deref.ensures.value ∙ c.in_ok-addresses.ensures) c.in_ok-under.ensures in
    subst (HaveRoom c.len.result) (sym c.deref-4.ensures.value)
    (pieces_room others c.len.result c.in_ok-under.under.items (addresses_fit c.args.others.now c.requires)
    (omega (arith, length-map c.args.others.now range_of_file, c.extend_from_slice-2.ensures.len, c.extend_from_slice-2.new.self.ok.0)) laid.each)

pub overlay-requires-clause-ends : goal.overlay-requires-clause-ends
overlay-requires-clause-ends c =
    let own = addresses_of c.args.self.now in
    subst (HaveRoom 0) (sym c.deref-3.ensures.value)
    (pieces_room own 0 c.in_ok-over.over.items (addresses_fit c.args.self.now c.laid.ensures.fit)
    (omega (arith, length-map c.args.self.now range_of_file, ap length c.self.view_is, c.self.inside.ranges.ok.0)) c.in_ok-over.ensures.laid.each)

pub of_laid-requires-clause-laid : goal.of_laid-requires-clause-laid
of_laid-requires-clause-laid c =
    let own = addresses_of c.args.self.now in
    let others = addresses_of c.args.others.now in
    let laid = subst (λ rs. AreLaid rs c.in_ok-under.under.items) (c.deref.ensures.value ∙ c.in_ok-addresses.ensures) c.in_ok-under.ensures in
    let joined = AreLaid-joined own others c.in_ok-over.over.items c.in_ok-under.under.items (addresses_fit c.args.others.now c.requires)
    (omega (arith, length-map c.args.others.now range_of_file)) c.in_ok-over.ensures.laid laid in
    let count : c.len.result ≡ length own = omega (arith, length-map c.args.self.now range_of_file, ap length c.self.view_is, c.self.inside.ranges.ok.0) in
    let made : c.deref-5.result.now ≡ overlaid (length own) 0 c.in_ok-over.over.items c.in_ok-under.under.items =
    c.deref-5.ensures.value ∙ c.in_ok-laid.ensures
    ∙ ap (λ n. overlaid n 0 c.deref-3.result.now c.deref-4.result.now) count
    ∙ ap (λ ps. overlaid (length own) 0 ps c.deref-4.result.now) c.deref-3.ensures.value
    ∙ ap (overlaid (length own) 0 c.in_ok-over.over.items) c.deref-4.ensures.value in
    let kept = c.deref-2.ensures.value ∙ c.self.view_is in
    let ranges : c.extend_from_slice-2.new.self.items ≡ c.args.self.now ++ c.args.others.now =
    c.in_ok-extend_from_slice-2.ensures.items
    ∙ ap (λ rs. rs ++ c.args.others.now) (c.in_ok-extend_from_slice.ensures.items ∙ ap (λ rs. rs ++ c.deref-2.result.now) c.new-ranges.ensures.items ∙ kept) in
    let all = ap addresses_of ranges ∙ map-append range_of_file c.args.self.now c.args.others.now in
    subst (λ rs. AreLaid rs c.deref-5.result.now) (sym all) (subst (AreLaid (own ++ others)) (sym made) joined)
