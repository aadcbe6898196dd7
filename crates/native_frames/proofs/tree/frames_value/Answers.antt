use Rattle.std.proofs.Common.{◌∙◌, ◌++◌, ◌∷◌, [], ap, append-nil, map, sym}
use Rattle.std.proofs.lemmas.List.{at_drop_all}
use Rattle.serde_json.specs.Data.{array}
use Rattle.serde_json.specs.View.{items_of, view}
use Rattle.serde_json.proofs.Views.{view-Array}
use Rattle.native_frames.specs.Trees.{frame_tree}
use Rattle.native_frames.proofs.Rest.{next, pushed_one, value_more}
use Rattle.native_frames.proofs.tree.frames_value.Goals as goal

pub loop-frame-preserved : goal.loop-frame-preserved
loop-frame-preserved c =
    let x = c.frame-item.result in
    value_more view c.loop-frame.values.items _ (frame_tree c.args.files.now x ∷ []) _ _ _
    (ap (λ xs. map (λ f. frame_tree c.args.files.now f) xs)
    (next c.args.frames.now c.loop-frame.frame-index x x c.loop-frame-test.true c.frame-item.is))
    c.loop-frame.invariant
    (pushed_one view c.loop-frame.values.items _ _ _ c.in_ok-push.ensures.items c.in_ok-frame_value.ensures)

pub returns : goal.returns
returns c =
    let shown = map view c.loop-frame.values.items in
    view-Array c.loop-frame.values
    ∙ ap (λ ds. array (items_of ds)) (sym (append-nil shown)
    ∙ ap (λ ds. shown ++ ds) (sym (at_drop_all (λ xs. map (λ f. frame_tree c.args.files.now f) xs) c.args.frames.now
    c.loop-frame.frame-index c.loop-frame-test.false)) ∙ c.loop-frame.invariant)
