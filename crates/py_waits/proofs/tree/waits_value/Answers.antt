use Rattle.std.proofs.Common.{◌∙◌, ap, map}
use Rattle.std.proofs.lemmas.List.{take_all}
use Rattle.serde_json.specs.Data.{array}
use Rattle.serde_json.specs.View.{items_of}
use Rattle.serde_json.proofs.Views.{view-Array}
use Rattle.py_waits.specs.Trees.{interpreter_tree}
use Rattle.py_waits.proofs.tree.waits_value.Goals as goal

pub returns : goal.returns
returns c =
    view-Array c.loop-interpreter.values
    ∙ ap (λ ds. array (items_of ds)) (c.loop-interpreter.invariant
    ∙ ap (λ xs. map (λ x. interpreter_tree x) xs)
    (take_all c.loop-interpreter.interpreter-index c.args.waits.now c.loop-interpreter-test.false))
