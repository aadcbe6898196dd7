use Rattle.std.proofs.Common.{◌∙◌, ap, map}
use Rattle.std.proofs.lemmas.List.{take_all}
use Rattle.serde_json.specs.Data.{array}
use Rattle.serde_json.specs.View.{items_of}
use Rattle.serde_json.proofs.Views.{view-Array}
use Rattle.core_texts.specs.Tree.{frame_tree}
use Rattle.core_texts.proofs.as_json.frames_value.Goals as goal

pub returns : goal.returns
returns c =
    view-Array c.loop-frame.values
    ∙ ap (λ ds. array (items_of ds)) (c.loop-frame.invariant
    ∙ ap (λ xs. map (λ x. frame_tree x) xs) (take_all c.loop-frame.frame-index c.args.frames.now c.loop-frame-test.false))
