use Rattle.std.proofs.Common.{◌≡◌, ◌++◌, ◌∷◌, ◌+◌, [], ap, inr, subst, sym, ◌∙◌}
use Rattle.maps_text.specs.Relevance.{is_relevant}
use Rattle.image_memory.specs.Maps.{IsFilePlace}
use Rattle.core_merge.specs.CoreEntries.{offset_of, unplaced}
use Rattle.core_merge.proofs.Made.{Making, making_fits, making_more, making_past, making_skip}
use Rattle.core_merge.proofs.entries.made_entries.Goals as goal

pub unplaced-requires : goal.unplaced-requires
unplaced-requires c = record {
  ends = making_fits _ _ _ _ c.map-item.result c.loop-number.invariant c.loop-number-test.true c.map-item.is;
}

pub loop-number-preserved-then-not-filter_relevant : goal.loop-number-preserved-then-not-filter_relevant
loop-number-preserved-then-not-filter_relevant c =
    making_skip _ _ _ _ c.map-item.result c.loop-number.invariant c.loop-number-test.true c.map-item.is
    (ap is_relevant (sym c.in_ok-entry.ensures) ∙ sym c.filter_relevant.ensures ∙ c.if-not-filter_relevant.true)

pub returns-in_default-offset_of : goal.returns-in_default-offset_of
returns-in_default-offset_of c =
    inr (making_past _ _ _ _ c.map-item.result c.loop-number.invariant c.loop-number-test.true c.map-item.is
    c.file_place.result (subst (λ n. IsFilePlace c.args.core.now n c.file_place.result) c.in-Ok.ensures.1 c.file_place.ensures.is)
    (ap is_relevant (sym c.in_ok-entry.ensures) ∙ sym c.filter_relevant.ensures ∙ c.if-not-filter_relevant.false)
    c.in_default-offset_of.ensures)

pub loop-number-preserved : goal.loop-number-preserved
loop-number-preserved c =
    let placed : record c.in_ok-entry.entry { offset = c.in-Some.offset } ≡ record (unplaced c.map-item.result) { offset = offset_of c.file_place.result } =
    λ i. record (c.in_ok-entry.ensures i) { offset = c.in-Some.ensures.1 i } in
    subst (Making c.args.core.now c.deref-map-items.result.now (c.loop-number.number + 1))
    (sym (c.in_ok-push.ensures.items ∙ ap (λ e. c.loop-number.entries.items ++ e ∷ []) placed))
    (making_more _ _ _ _ c.map-item.result c.loop-number.invariant c.loop-number-test.true c.map-item.is
    c.file_place.result (subst (λ n. IsFilePlace c.args.core.now n c.file_place.result) c.in-Ok.ensures.1 c.file_place.ensures.is)
    (ap is_relevant (sym c.in_ok-entry.ensures) ∙ sym c.filter_relevant.ensures ∙ c.if-not-filter_relevant.false)
    c.in-Some.ensures.0)
