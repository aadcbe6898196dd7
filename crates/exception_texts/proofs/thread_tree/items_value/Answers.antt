use Rattle.std.proofs.Common.{◌∙◌, ap, map}
use Rattle.std.proofs.lemmas.List.{take_all}
use Rattle.serde_json.specs.Data.{array}
use Rattle.serde_json.specs.View.{items_of}
use Rattle.serde_json.proofs.Views.{view-Array}
use Rattle.exception_texts.specs.Trees.{item_tree}
use Rattle.exception_texts.proofs.thread_tree.items_value.Goals as goal

pub returns : goal.returns
returns c =
    view-Array c.loop-item.own
    ∙ ap (λ ds. array (items_of ds)) (c.loop-item.invariant
    ∙ ap (λ xs. map (λ x. item_tree x) xs)
    (take_all c.loop-item.item-index c.args.items.now c.loop-item-test.false))
