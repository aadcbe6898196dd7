use Rattle.std.proofs.Common.{◌∙◌, ap, map}
use Rattle.std.proofs.lemmas.List.{take_all}
use Rattle.serde_json.specs.Data.{array}
use Rattle.serde_json.specs.View.{items_of}
use Rattle.serde_json.proofs.Views.{view-Array}
use Rattle.heap_texts.specs.Trees.{interpreter_tree}
use Rattle.heap_texts.proofs.tree.interpreters_value.Goals as goal

pub returns : goal.returns
returns c =
    view-Array c.loop-heap.values
    ∙ ap (λ ds. array (items_of ds)) (c.loop-heap.invariant
    ∙ ap (λ xs. map (λ x. interpreter_tree x) xs)
    (take_all c.loop-heap.heap-index c.args.heaps.now c.loop-heap-test.false))
