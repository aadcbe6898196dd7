use Rattle.std.proofs.Common.{◌∙◌, ap, map}
use Rattle.std.proofs.lemmas.List.{take_all}
use Rattle.serde_json.specs.Data.{array}
use Rattle.serde_json.specs.View.{items_of}
use Rattle.serde_json.proofs.Views.{view-Array}
use Rattle.exception_texts.specs.Trees.{address_tree}
use Rattle.exception_texts.proofs.tree.addresses_value.Goals as goal

pub returns : goal.returns
returns c =
    view-Array c.loop-address.own
    ∙ ap (λ ds. array (items_of ds)) (c.loop-address.invariant
    ∙ ap (λ xs. map (λ x. address_tree x) xs)
    (take_all c.loop-address.address-index c.args.addresses.now c.loop-address-test.false))
