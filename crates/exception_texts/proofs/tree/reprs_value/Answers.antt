use Rattle.std.proofs.Common.{◌∙◌, ap, map}
use Rattle.std.proofs.lemmas.List.{take_all}
use Rattle.serde_json.specs.Data.{array}
use Rattle.serde_json.specs.View.{items_of}
use Rattle.serde_json.proofs.Views.{view-Array}
use Rattle.exception_texts.specs.Trees.{repr_tree}
use Rattle.exception_texts.proofs.tree.reprs_value.Goals as goal

pub returns : goal.returns
returns c =
    view-Array c.loop-value.own
    ∙ ap (λ ds. array (items_of ds)) (c.loop-value.invariant
    ∙ ap (λ xs. map (λ x. repr_tree x) xs)
    (take_all c.loop-value.value-index c.args.values.now c.loop-value-test.false))
