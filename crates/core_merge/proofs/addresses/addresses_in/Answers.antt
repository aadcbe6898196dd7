use Rattle.std.proofs.Common.{◌++◌, ◌∷◌, [], ap, sym, ◌∙◌, append_assoc}
use Rattle.maps_text.specs.Texts.{lines_of}
use Rattle.core_merge.proofs.Lines.{good_more, map_more}
use Rattle.core_merge.proofs.addresses.addresses_in.Goals as goal

pub loop-rest-preserved : goal.loop-rest-preserved
loop-rest-preserved c =
    let before = c.loop-rest.invariant.0 in
    let line = c.first_line.result.0.now in
    let behind = lines_of c.first_line.result.1.now in (
      before ++ line ∷ [],
      c.loop-rest.invariant.1 ∙ ap (λ ls. before ++ ls) c.first_line.ensures ∙ sym (append_assoc before (line ∷ []) behind),
      good_more before line c.loop-rest.invariant.2 c.in-Some.ensures.0,
      c.in_ok-push.ensures.items ∙ map_more before line c.loop-rest.addresses.items c.in-Some.address c.loop-rest.invariant.3 c.in-Some.ensures.1,
    )
