use Rattle.std.proofs.Common.{◌∙◌, ap, map}
use Rattle.std.proofs.lemmas.List.{take_all}
use Rattle.serde_json.specs.Data.{array}
use Rattle.serde_json.specs.View.{items_of}
use Rattle.serde_json.proofs.Views.{view-Array}
use Rattle.paired_stacks.specs.Trees.{item_tree}
use Rattle.paired_stacks.proofs.tree.items_value.Goals as goal

pub returns : goal.returns
returns c =
    view-Array c.loop-item.values
    ∙ ap (λ ds. array (items_of ds)) (c.loop-item.invariant
    ∙ ap (λ xs. map (λ x. item_tree c.args.hidden.now x) xs)
    (take_all c.loop-item.item-index c.args.items.now c.loop-item-test.false))
